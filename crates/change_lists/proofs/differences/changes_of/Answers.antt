use Rattle.std.proofs.Common.{[]}
use Rattle.nvt_config.proofs.Viewers.{own_first}
use Rattle.change_lists.specs.Reached.{AreChangesFor}
use Rattle.change_lists.proofs.differences.changes_of.Goals as goal

pub returns-clause-own : goal.returns-clause-own
returns-clause-own c =
    let meant = AreChangesFor c.args.old.now c.args.new.now c.args.subsystem.now in
    let first = rw c.shows.ensures.lent at (c.in_ok-add_changes.ensures.own [] (rw c.new-changed.ensures (own_first c.args.subsystem.now meant))) in
    rw c.shows-2.ensures.lent at (c.in_ok-add_changes-2.ensures.own c.args.old.now.shows first)
