-- Writes of ranges, one after another.
use Rattle.std.specs.Prelude.{ℕ, ◌+◌, ◌-◌, ◌≤◌, Bool, ◌&&◌, nat_le, nat_lt, List, [], ◌∷◌, length, slice_index_or, Option, Some, None, if◌then◌else◌}
use Rattle.block_store.specs.Range.{overwritten}

-- a write of these units from that number on
pub record Write : Type 0 where
  pub first : ℕ
  pub units : List (List ℕ)

-- the contents after these writes, the last one first in the list
abbrev pub contents_after : List Write → List (List ℕ) → List (List ℕ)
contents_after [] contents = contents
contents_after (write ∷ earlier) contents = overwritten (contents_after earlier contents) write.first write.units

-- whether a write is within so many units
abbrev pub IsWithin : ℕ → Write → Type 0
IsWithin blocks write = write.first + length write.units ≤ blocks

-- whether a write writes that unit
abbrev pub writes : Write → ℕ → Bool
writes write unit = nat_le write.first unit && nat_lt unit (write.first + length write.units)

-- what the latest write of that unit wrote to it, if any did
abbrev pub latest : List Write → ℕ → Option (List ℕ)
latest [] unit = None
latest (write ∷ earlier) unit =
    if writes write unit then Some (slice_index_or write.units (unit - write.first) []) else latest earlier unit
