-- All connections step until they are idle.
use Rattle.std.proofs.Common.{ℕ, ◌+◌, add-one, refl}
use Rattle.nvt_replay.specs.Played.{StepBelow}
use Rattle.target_core.specs.Target.{TargetState}
use Rattle.target_core.specs.Steps.{StepsUntilIdle}

pub below_none : (t : TargetState) → StepBelow 0 t t
unfolding StepBelow
below_none t = refl

pub below_more : (k : ℕ) (old mid new : TargetState) → StepBelow k old mid → StepsUntilIdle k mid new → StepBelow (k + 1) old new
unfolding StepBelow
below_more k old mid new before here = rw add-one (mid, before, here)
