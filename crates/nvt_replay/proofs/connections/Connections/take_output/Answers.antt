use Rattle.target_core.proofs.Knowing.{marks_stay, taken_known}
use Rattle.nvt_replay.proofs.connections.Connections.take_output.Goals as goal

pub invariant_of-self : goal.invariant_of-self
invariant_of-self c =
    marks_stay c.self.inside.target c.taken.new.self c.self.inside.marks
    (taken_known c.self.inside.target c.taken.new.self c.args.k _ c.taken.ensures.taken) c.self.invariant
