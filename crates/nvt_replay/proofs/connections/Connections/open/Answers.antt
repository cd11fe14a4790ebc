use Rattle.target_core.proofs.Knowing.{opened_marked}
use Rattle.nvt_replay.proofs.connections.Connections.open.Goals as goal

pub invariant_of-self-2 : goal.invariant_of-self-2
invariant_of-self-2 c =
    opened_marked c.self.inside.target c.open.new.self c.args.port c.in_ok-k.k c.self.inside.marks c.add.new.self c.add.ensures
    c.self.invariant c.in_ok-k.ensures.opened.1
