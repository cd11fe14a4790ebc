-- What the pieces of a disk in memory stand for.
use Rattle.std.specs.Prelude.{◌≡◌, ℕ, List, [], ◌∷◌, length, replicate}
use Rattle.std.proofs.lemmas.List.Elements.{All-nil, All-append, All-head, All-tail}
use Rattle.std.specs.List.{All, flat_map}
use Rattle.block_store.specs.Unit.{IsUnit, zero_unit}

-- the units of a piece that was never written
unfoldable pub blank_piece : List (List ℕ)
blank_piece = replicate 128 zero_unit

-- the pieces of a table of which none was ever written
unfoldable pub blank_pieces : List (List (List ℕ))
blank_pieces = replicate 1024 blank_piece

-- the units of a piece: none stand for those that were never written
abbrev pub piece_units : List (List ℕ) → List (List ℕ)
piece_units [] = blank_piece
piece_units (unit ∷ units) = unit ∷ units

-- the pieces of a table: none stand for those that were never written
abbrev pub table_pieces : List (List (List ℕ)) → List (List (List ℕ))
table_pieces [] = blank_pieces
table_pieces (piece ∷ pieces) = piece ∷ pieces

-- the units of parts, one part after another
abbrev pub joined : List (List (List ℕ)) → List (List ℕ)
joined parts = flat_map (λ part. part) parts

-- so many units, each of 512 bytes
pub record AreUnits (many : ℕ) (units : List (List ℕ)) : Type 0 where
  pub count : length units ≡ many
  pub each : All IsUnit units

-- so many parts, each of so many units
pub record AreParts (many long : ℕ) (parts : List (List (List ℕ))) : Type 0 where
  pub count : length parts ≡ many
  pub each : All (AreUnits long) parts

-- each unit of such parts has 512 bytes
pub units-joined : (long : ℕ) (parts : List (List (List ℕ))) → All (AreUnits long) parts → All IsUnit (joined parts)
units-joined long [] all = All-nil IsUnit
units-joined long (part ∷ parts) all =
    All-append IsUnit part (joined parts) ((All-head (AreUnits long) part parts all).each)
    (units-joined long parts (All-tail (AreUnits long) part parts all))
