-- What a table has at each number.
use Rattle.std.specs.Prelude.{◌≡◌, ◌<◌, ℕ, Bool, List, Option, Some, None, find, is_none, length, slice_index_or, slice_set, if◌then◌else◌}
use Rattle.std.specs.Borrow.{Bor}
use Rattle.std.specs.Option.{option_copied}

-- each place of the table has the first item that passes the test for it
abbrev pub IsTable : {X : Type 0} → (ℕ → X → Bool) → List X → List (Option (Bor X)) → Type 0
IsTable test xs table = (k : ℕ) → k < length table → option_copied (slice_index_or table k None) ≡ find (test k) xs

abbrev pub IsEmptyTable : {X : Type 0} → List (Option (Bor X)) → Type 0
IsEmptyTable table = (k : ℕ) → option_copied (slice_index_or table k None) ≡ None

-- the table with this item at a place, where it has the place and nothing is there
abbrev pub with_first : {X : Type 0} → List (Option (Bor X)) → ℕ → Bor X → List (Option (Bor X))
with_first table at item = if is_none (slice_index_or table at (Some item)) then slice_set table at (Some item) else table
