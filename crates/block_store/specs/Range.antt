-- Ranges of the units of a disk.
use Rattle.std.specs.Prelude.{◌≡◌, ℕ, ◌+◌, ◌-◌, ◌/◌, ◌<◌, ◌≤◌, List, [], ◌++◌, length, take, drop, slice_index_or}
use Rattle.std.specs.List.{concat}
use Rattle.std.specs.Simd.{first_chunks}

-- the units that bytes are cut into
abbrev pub units_of : List ℕ → List (List ℕ)
units_of bytes = first_chunks 512 (length bytes / 512) bytes

-- the bytes of units, one unit after another
abbrev pub bytes_of : List (List ℕ) → List ℕ
bytes_of units = concat units

-- so many units from that number on
abbrev pub units_at : List (List ℕ) → ℕ → ℕ → List (List ℕ)
units_at contents first count = take count (drop first contents)

-- the contents with these units in the place of those from that number on
abbrev pub overwritten : List (List ℕ) → ℕ → List (List ℕ) → List (List ℕ)
overwritten contents first units =
    take first contents ++ units ++ drop (first + length units) contents

-- A write of these units that a fault cut short: a front of them is there, and the rest is as before.
pub record FrontWritten (contents : List (List ℕ)) (first : ℕ) (units new : List (List ℕ)) : Type 0 where
  pub count : ℕ
  pub within : count ≤ length units
  pub holds : new ≡ overwritten contents first (take count units)

-- the unit is one of those from that number on, and has what was written to it
pub record IsWritten (first : ℕ) (units new : List (List ℕ)) (unit : ℕ) : Type 0 where
  pub from : first ≤ unit
  pub below : unit < first + length units
  pub bytes : slice_index_or new unit [] ≡ slice_index_or units (unit - first) []
