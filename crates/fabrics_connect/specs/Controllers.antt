-- The controllers that live, by their identifiers (CNTLID).
use Rattle.std.specs.Prelude.{◌≡◌, ℕ, ◌≤◌, List, drop, length, replicate, find, Option, Some, None, is_none}
use Rattle.std.specs.List.{filter_map, range_with_len}
use Rattle.tables.specs.NumberTable.{place, with_value}
use Rattle.fabrics_connect.specs.declared.row.Row.{Row}

-- the most controllers at a time
abbrev pub controllers_max : ℕ
controllers_max = 32

-- no controller: a place for each identifier from 1 to 32, and for 0, which is never given
abbrev pub no_controllers : List (Option Row)
no_controllers = replicate 33 None

-- what is true of each table of controllers
pub record AreControllers (rows : List (Option Row)) : Type 0 where
  pub places : length rows ≡ 33
  pub unused : place rows 0 ≡ None
  -- each row stands under its own identifier
  pub own : (cntlid : ℕ) (row : Row) → place rows cntlid ≡ Some row → row.cntlid ≡ cntlid

-- the rows of the controllers that live, by rising identifier
abbrev pub live_rows : List (Option Row) → List Row
live_rows rows = filter_map (λ there. there) rows

-- .. of this identifier and those above it
abbrev pub live_from : List (Option Row) → ℕ → List Row
live_from rows from = live_rows (drop from rows)

-- the least identifier from 1 to 32 that no controller has
unfoldable pub free_cntlid : (ℕ → Option Row) → Option ℕ
free_cntlid row = find (λ cntlid. is_none (row cntlid)) (range_with_len 1 controllers_max)

-- a controller may begin under the identifier: it is one of those, and free
pub record CanBegin (rows : List (Option Row)) (cntlid : ℕ) : Type 0 where
  pub least : 1 ≤ cntlid
  pub most : cntlid ≤ 32
  pub free : place rows cntlid ≡ None

-- the row that stood under the identifier, if one did, is changed by f, and all else stays
abbrev pub ChangedAt : ℕ → (Row → Row) → Option Row → List (Option Row) → List (Option Row) → Type 0
ChangedAt cntlid f None old new = new ≡ old
ChangedAt cntlid f (Some row) old new = new ≡ with_value old cntlid (f row)
