-- What follows from the definitions of this crate, in the words of the subject.
use Rattle.std.specs.Prelude.{◌≡◌, ℕ, ◌+◌, ◌*◌, ◌<◌, ◌≤◌, ◌==◌, true, List, [], ◌∷◌, ◌++◌, length, Option, Some, None, IsSome, slice_get, slice_range}
use Rattle.std.specs.List.{flat_map}
use Rattle.data_transfer.specs.declared.fault.DataFault.{DataFault}
use Rattle.data_transfer.specs.declared.piece.Piece.{Piece}
use Rattle.data_transfer.specs.Part.{H2cData, Part, begun, is_whole, part_after, part_fault}
use Rattle.data_transfer.specs.Pieces.{pieces}

-- ---- the pieces of a reply's data

-- the data of the pieces, one after another, is all the data
abbrev pub PiecesJoin : Type 0
PiecesJoin =
    (bytes : List ℕ) → flat_map (λ piece. slice_range bytes piece.offset (piece.offset + piece.len)) (pieces (length bytes)) ≡ bytes

-- what is true of the piece of that number, from 0 on, of these
pub record IsInTurn (all : List Piece) (number : ℕ) (piece : Piece) : Type 0 where
  pub begins : piece.offset ≡ number * 32768
  pub has_data : 0 < piece.len
  pub most : piece.len ≤ 32768
  -- each but the last is full, and the last alone is marked
  pub full : number + 1 < length all → piece.len ≡ 32768
  pub marked : piece.last ≡ (number + 1 == length all)

abbrev pub PiecesAreInTurn : Type 0
PiecesAreInTurn = (len number : ℕ) (piece : Piece) → slice_get (pieces len) number ≡ Some piece → IsInTurn (pieces len) number piece

-- ---- transfers

-- the data that an H2CData brings, where it has no fault
abbrev pub brought : Option DataFault → H2cData → List ℕ
brought None pdu = pdu.bytes
brought (Some fault) pdu = []

module _ {C : Type 0} where
  -- the least tag that no transfer of a connection uses
  pub record IsLeastFree (tags : ℕ → Option (Part C)) (ttag : ℕ) : Type 0 where
    pub free : tags ttag ≡ None
    pub used : (below : ℕ) → below < ttag → IsSome (tags below)

  -- a transfer after these H2CData, the first of which comes first, whatever they say
  abbrev pub after_all : Part C → List H2cData → Part C
  after_all part [] = part
  after_all part (pdu ∷ later) = after_all (part_after (part_fault part pdu) pdu part) later

  -- the data of those that were accepted, joined
  abbrev pub joined : Part C → List H2cData → List ℕ
  joined part [] = []
  joined part (pdu ∷ later) =
      brought (part_fault part pdu) pdu ++ joined (part_after (part_fault part pdu) pdu part) later

  -- a transfer holds the data that came, and no more than was asked for; one that is whole holds as many
  -- bytes as its R2T asked for
  pub record HoldsWhatCame (cid : ℕ) (command : C) (asked : ℕ) (pdus : List H2cData) : Type 0 where
    pub bytes : (after_all (begun cid command asked) pdus).bytes ≡ joined (begun cid command asked) pdus
    pub within : length (joined (begun cid command asked) pdus) ≤ asked
    pub whole : is_whole (after_all (begun cid command asked) pdus) ≡ true → length (joined (begun cid command asked) pdus) ≡ asked
    pub same_cid : (after_all (begun cid command asked) pdus).cid ≡ cid
    pub same_command : (after_all (begun cid command asked) pdus).command ≡ command
