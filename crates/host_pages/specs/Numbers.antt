-- Numbers of 4 bytes that stand one after the other.
use Rattle.std.specs.Prelude.{ℕ, ◌*◌, List, map}
use Rattle.std.specs.List.{range_with_len}
use Rattle.nvt_fields.specs.Field.{field_at}

-- the number of that place, from 0 on
abbrev pub number_at : List ℕ → ℕ → ℕ
number_at bytes n = field_at 4 (n * 4) bytes

-- so many numbers from a place on
unfoldable pub numbers_from : List ℕ → ℕ → ℕ → List ℕ
numbers_from bytes first count = map (number_at bytes) (range_with_len first count)

-- the first so many
abbrev pub numbers_of : ℕ → List ℕ → List ℕ
numbers_of count bytes = numbers_from bytes 0 count
