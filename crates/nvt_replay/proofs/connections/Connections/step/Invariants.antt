use Rattle.nvt_replay.specs.Played.{StepBelow}
use Rattle.nvt_replay.proofs.connections.Connections.step.Given as goal

abbrev pub invariant-loop-k : goal.invariant-loop-k
invariant-loop-k l = StepBelow l.k l.fn.self l.self
