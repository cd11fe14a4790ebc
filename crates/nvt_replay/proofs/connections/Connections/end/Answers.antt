use Rattle.target_core.proofs.Knowing.{ended_marked}
use Rattle.nvt_replay.proofs.connections.Connections.end.Goals as goal

pub invariant_of-self : goal.invariant_of-self
invariant_of-self c =
    ended_marked c.self.inside.target c.end.new.self c.args.k c.self.inside.marks c.remove.new.self c.remove.ensures c.end.ensures.transition c.self.invariant
