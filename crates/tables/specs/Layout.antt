-- How a `NumberTable` lays out its values in a slab. No public clause cites this module.
use Rattle.std.specs.Prelude.{◌≡◌, ℕ, List, map, Option, Some, None, is_none, IsSome, count_by}
use Rattle.slab.specs.Slab.{Slab, get, HasRoomFor}
use Rattle.tables.specs.NumberTable.{place}

module _ {T : Type 0} where
  -- the value under a key, if there is a key
  abbrev pub value_under : Slab T → Option ℕ → Option T
  value_under values None = None
  value_under values (Some key) = get values key

  -- the value at each number
  abbrev pub table_of : List (Option ℕ) → Slab T → List (Option T)
  table_of keys values = map (value_under values) keys

  -- each key has a value, no two numbers share one, and the empty numbers' values have room
  pub record IsLaidOut (keys : List (Option ℕ)) (values : Slab T) : Type 0 where
    pub held : (number key : ℕ) → place keys number ≡ Some key → IsSome (get values key)
    pub unshared : (m n key : ℕ) → place keys m ≡ Some key → place keys n ≡ Some key → m ≡ n
    pub room : HasRoomFor values (count_by is_none keys)
