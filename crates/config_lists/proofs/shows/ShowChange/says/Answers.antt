use Rattle.std.proofs.Common.{sym}
use Rattle.config_lists.specs.Shows.{shown_by}
use Rattle.config_lists.proofs.Changed.{others_left, taken_out}
use Rattle.config_lists.proofs.shows.ShowChange.says.Goals as goal

pub returns-in-Less : goal.returns-in-Less
returns-in-Less c = λ listed.
    rw c.in-Less.is (taken_out c.args.subsystem.now c.args.nsid c.args.host.now (shown_by c.in-Less.show) (sym c.if-is_to-2.ensures) listed)

pub returns-in_default-2 : goal.returns-in_default-2
returns-in_default-2 c = λ listed.
    rw c.in-Less.is (others_left c.args.subsystem.now c.args.nsid c.args.host.now (shown_by c.in-Less.show) (sym c.if-is_to-2.ensures) listed)
