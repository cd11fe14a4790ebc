use Rattle.ana_view.proofs.Members.{table_descriptor}
use Rattle.ana_view.proofs.groups.Groups.of.Goals as goal

pub returns : goal.returns
returns c = λ group few.
    table_descriptor c.args.seen.now c.args.subsystem.now c.args.port _ group
    c.requires (rw c.states.ensures at (c.of.ensures.found group few))
