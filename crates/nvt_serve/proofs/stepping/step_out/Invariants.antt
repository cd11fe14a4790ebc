use Rattle.std.proofs.Common.{ℕ}
use Rattle.std.specs.Prelude.{◌≢◌}
use Rattle.nvt_serve.specs.Looks.{LastsAt}
use Rattle.nvt_serve.specs.Served.{IsQuietAt}
use Rattle.nvt_serve.specs.Stepping.{GoesBySteps}
use Rattle.target_core.specs.Marks.{SameKnown}
use Rattle.target_core.proofs.Steps.{left_at}
use Rattle.nvt_serve.proofs.stepping.step_out.Given as goal

abbrev pub invariant-loop-target : goal.invariant-loop-target
invariant-loop-target g l = record {
  goes : GoesBySteps l.fn.target l.target;
  known : SameKnown l.fn.target l.target;
  others : (j : ℕ) → j ≢ l.k → IsQuietAt l.fn.target j → IsQuietAt l.target j;
  lasts : (j : ℕ) → j ≢ l.k → LastsAt j l.fn.target l.target;
}

abbrev pub decreases-loop-target : goal.decreases-loop-target
decreases-loop-target g l = left_at l.target l.k
