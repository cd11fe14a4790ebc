-- What a file held when it was opened.
use Rattle.std.specs.Prelude.{ℕ, ◌*◌, List, map}
use Rattle.std.specs.List.{range_with_len}

-- the bytes of the unit of that number, of a file that held these
unfoldable pub unit_held : (ℕ → ℕ) → ℕ → List ℕ
unit_held held unit = map held (range_with_len (unit * 512) 512)

-- so many units from the file's start on
abbrev pub units_held : (ℕ → ℕ) → ℕ → List (List ℕ)
units_held held units = map (unit_held held) (range_with_len 0 units)
