-- What a contract sees of a table: its names, each with its value, and its room.
use Rattle.std.specs.Prelude.{◌≡◌, ℕ, List, Option, Some, None, if◌then◌else◌}
use Rattle.std.specs.Map.{lookup}
use Rattle.std.specs.Str.{bytes_eq}

-- the names with their values, and for how many more names there is room
pub record Table (T : Type 0) : Type 0 where
  pub values : List (List ℕ × T)
  pub room : ℕ

module _ {T : Type 0} where
  -- the value of a name, if it has one
  abbrev pub value_of : List (List ℕ × T) → List ℕ → Option T
  value_of table name = lookup (bytes_eq name) table

  -- the name has that value now, and every other what it had
  abbrev pub IsPut : List (List ℕ × T) → List (List ℕ × T) → List ℕ → T → Type 0
  IsPut old new name value =
      (other : List ℕ) → value_of new other ≡ (if bytes_eq other name then Some value else value_of old other)

  -- the name has no value now, and every other what it had
  abbrev pub IsRemoved : List (List ℕ × T) → List (List ℕ × T) → List ℕ → Type 0
  IsRemoved old new name =
      (other : List ℕ) → value_of new other ≡ (if bytes_eq other name then None else value_of old other)
