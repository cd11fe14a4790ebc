use Rattle.std.proofs.Common.{◌≡◌, ℕ, ◌<◌, ◌-◌, false}
use Rattle.tables.specs.NumberTable.{place}
use Rattle.target_core.specs.Target.{is_ended_at}
use Rattle.nvt_serve.proofs.closing.some_ended.Given as goal

abbrev pub invariant-loop-k : goal.invariant-loop-k
invariant-loop-k g l = record {
  none : (j : ℕ) → j < l.least → is_ended_at (place l.target.connections j) ≡ false;
}

abbrev pub decreases-loop-k : goal.decreases-loop-k
decreases-loop-k g l = 64 - l.least
