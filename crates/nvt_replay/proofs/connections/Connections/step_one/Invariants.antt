use Rattle.target_core.specs.Target.{TargetState}
use Rattle.target_core.specs.Steps.{StepsUntilIdle}
use Rattle.target_core.specs.Marks.{AreMarks}
use Rattle.target_core.proofs.Steps.{left_at}
use Rattle.nvt_replay.proofs.connections.Connections.step_one.Given as goal

-- whatever steps of the connection come now, they come behind those that it has made
abbrev pub invariant-loop : goal.invariant-loop
invariant-loop l = record {
  marks : AreMarks l.self-inside.marks l.self-inside.target;
  behind : (last : TargetState) → StepsUntilIdle l.k l.self-inside.target last → StepsUntilIdle l.k l.fn.self last;
}

abbrev pub decreases-loop : goal.decreases-loop
decreases-loop l = left_at l.self-inside.target l.k
