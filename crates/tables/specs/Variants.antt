-- A value that all hold in common, with a value of its own for some names; and a table of such values by name.
use Rattle.std.specs.Prelude.{◌≡◌, ℕ, ◌&&◌, List, Option, Some, None, length, unwrap_or, if◌then◌else◌}
use Rattle.std.specs.Option.{option_map}
use Rattle.std.specs.Str.{bytes_eq}
use Rattle.tables.specs.NameTable.{value_of}

-- the value of all names, but for those that have a value of their own
pub record VariantsState (T : Type 0) : Type 0 where
  pub common : T
  pub own : List (List ℕ × T)

-- such a value for each of some first names, and for how many more first names there is room
pub record VariantTableState (T : Type 0) : Type 0 where
  pub values : List (List ℕ × VariantsState T)
  pub room : ℕ

module _ {T : Type 0} where
  -- what a name sees: its own value, and else the common one
  abbrev pub variant_of : VariantsState T → List ℕ → T
  variant_of v name = unwrap_or (value_of v.own name) v.common

  -- the common value, where there is one
  abbrev pub common_of : Option (VariantsState T) → Option T
  common_of None = None
  common_of (Some v) = Some v.common

  -- the own value of a name, where it has one
  abbrev pub own_of : Option (VariantsState T) → List ℕ → Option T
  own_of None name = None
  own_of (Some v) name = value_of v.own name

  -- how many names have a value of their own
  abbrev pub count_of : Option (VariantsState T) → ℕ
  count_of None = 0
  count_of (Some v) = length v.own

  -- the common value under a first name
  abbrev pub common_at : List (List ℕ × VariantsState T) → List ℕ → Option T
  common_at table name = common_of (value_of table name)

  -- the own value of a second name under a first
  abbrev pub own_at : List (List ℕ × VariantsState T) → List ℕ → List ℕ → Option T
  own_at table first second = own_of (value_of table first) second

  -- how many second names have a value of their own under a first
  abbrev pub count_at : List (List ℕ × VariantsState T) → List ℕ → ℕ
  count_at table first = count_of (value_of table first)

  -- what a second name sees under a first
  abbrev pub variant_at : List (List ℕ × VariantsState T) → List ℕ → List ℕ → Option T
  variant_at table first second = option_map (λ v. variant_of v second) (value_of table first)

  -- the second name has that own value under the first now, or none, and every other pair of names what it had
  abbrev pub AreOwnPut : List (List ℕ × VariantsState T) → List (List ℕ × VariantsState T) → List ℕ → List ℕ → Option T → Type 0
  AreOwnPut old new first second value =
      (f s : List ℕ) → own_at new f s ≡ (if bytes_eq f first && bytes_eq s second then value else own_at old f s)
