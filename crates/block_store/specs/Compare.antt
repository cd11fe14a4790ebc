-- Bytes beside those that a read found.
use Rattle.std.specs.Prelude.{◌≡◌, ℕ, ◌↔◌, Bool, IsTrue, List, length}
use Rattle.block_store.specs.Faults.{Strays}

-- The answer says whether the bytes are those that were found, as many; and these are those that were
-- wanted, or the count of strays rose.
pub record Compared (bytes wanted : List ℕ) (same : Bool) (old new : ℕ) : Type 0 where
  pub found : List ℕ
  pub whole : length found ≡ length bytes
  pub answer : IsTrue same ↔ (bytes ≡ found)
  pub strays : Strays found wanted old new
