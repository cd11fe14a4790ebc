use Rattle.std.proofs.Common.{◌≡◌, ℕ, ◌<◌, ◌≤◌, false, length, is_some}
use Rattle.tables.specs.NumberTable.{place}
use Rattle.nvt_serve.specs.Sets.{is_in}
use Rattle.nvt_serve.proofs.ties.known_of.Given as goal

abbrev pub invariant-loop-k : goal.invariant-loop-k
invariant-loop-k g l = record {
  known : (j : ℕ) → j < l.k → is_in l.known.bits j ≡ is_some (place l.target.connections j);
  rest : (j : ℕ) → l.k ≤ j → is_in l.known.bits j ≡ false;
  most : 0 < l.k → length l.target.connections ≡ 64;
}
