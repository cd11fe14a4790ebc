-- A unit of a disk: 512 bytes.
use Rattle.std.specs.Prelude.{◌≡◌, ℕ, List, length, replicate}

abbrev pub IsUnit : List ℕ → Type 0
IsUnit bytes = length bytes ≡ 512

abbrev pub zero_unit : List ℕ
zero_unit = replicate 512 0
