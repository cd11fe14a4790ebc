use Rattle.std.proofs.Common.{◌≡◌, ℕ, ◌<◌, ◌-◌}
use Rattle.nvt_serve.specs.Looks.{AreLooks}
use Rattle.nvt_serve.specs.Served.{IsQuietAt}
use Rattle.nvt_serve.specs.Stepping.{GoesBySteps}
use Rattle.target_core.specs.Marks.{SameKnown}
use Rattle.nvt_serve.proofs.stepping.step_all.Given as goal

abbrev pub invariant-loop-k : goal.invariant-loop-k
invariant-loop-k g l = record {
  goes : GoesBySteps l.fn.target l.target;
  known : SameKnown l.fn.target l.target;
  connections : l.ties.connections ≡ l.fn.ties.connections;
  looks : AreLooks l.target l.ties;
  quiet : l.memory ≡ 0 → (j : ℕ) → j < l.least → IsQuietAt l.target j;
}

abbrev pub decreases-loop-k : goal.decreases-loop-k
decreases-loop-k g l = 64 - l.least
