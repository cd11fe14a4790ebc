use Rattle.std.proofs.Common.{◌≡◌, ℕ, ◌<◌, false, length, slice_index_or, is_some}
use Rattle.tables.specs.NumberTable.{place}
use Rattle.target_core.proofs.marks.Marks.of.Given as goal

abbrev pub invariant-loop-k : goal.invariant-loop-k
invariant-loop-k g l = record {
  marked : (j : ℕ) → j < l.k → slice_index_or l.known j false ≡ is_some (place l.target.connections j);
  whole : length l.known ≡ 64;
  most : 0 < l.k → length l.target.connections ≡ 64;
}
