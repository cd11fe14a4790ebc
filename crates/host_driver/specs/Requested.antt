-- The data of a command, as its controller asks for them (TCP Transport 1.0, section 3.3).
use Rattle.std.specs.Prelude.{◌≡◌, ◌≤◌, ◌==◌, ℕ, zero, suc, ◌+◌, ◌*◌, ◌/◌, nat_lt, Bool, true, false, List, [], ◌∷◌, length, take, drop, slice_range, if◌then◌else◌}
use Rattle.std.specs.List.{flat_map}
use Rattle.pdu_codec.specs.declared.r2t.R2t.{R2t}
use Rattle.pdu_codec.specs.H2cData.{h2c_data}
use Rattle.host_driver.specs.declared.phase.TransportLimits.{TransportLimits}

-- some of the data: where they stand in the command's, whether they are the last that are asked for
pub record Piece : Type 0 where
  pub offset : ℕ
  pub last : Bool
  pub payload : List ℕ

abbrev pub piece : ℕ → Bool → List ℕ → Piece
piece offset last payload = record { offset = offset; last = last; payload = payload }

-- data from an offset on, in at most so many pieces, each but the last of `most` bytes
unfoldable pub pieces_from : ℕ → ℕ → ℕ → List ℕ → List Piece
pieces_from zero most offset bytes = []
pieces_from (suc n) most offset bytes =
    if nat_lt most (length bytes)
    then piece offset false (take most bytes) ∷ pieces_from n most (offset + most) (drop most bytes)
    else piece offset true bytes ∷ []

-- .. and in as many as it takes
abbrev pub pieces : ℕ → ℕ → List ℕ → List Piece
pieces most offset bytes = pieces_from (length bytes) most offset bytes

-- the H2CData of a piece
abbrev pub piece_pdu : ℕ → R2t → Piece → List ℕ
piece_pdu cpda request p = h2c_data (record {
  cccid = request.cccid;
  ttag = request.ttag;
  offset = p.offset;
  last = p.last;
  cpda = cpda;
  payload = p.payload;
})

-- the data that are asked for
abbrev pub asked_of : R2t → List ℕ → List ℕ
asked_of request bytes = slice_range bytes request.r2to (request.r2to + request.r2tl)

unfoldable pub requested_of : TransportLimits → R2t → List ℕ → List ℕ
requested_of limits request bytes =
    flat_map (piece_pdu limits.cpda request) (pieces limits.maxh2cdata request.r2to (asked_of request bytes))

-- the room that so many bytes need at most: a piece but the last has 4,096 bytes or more, and before each
-- stand a header and zeros of at most 152 bytes
abbrev pub requested_room : ℕ → ℕ
requested_room len = len + 152 * (len / 4096 + 1)

-- ---- laws of pieces

-- one after another they are all the data
abbrev pub PiecesJoin : Type 0
PiecesJoin = (most offset : ℕ) (bytes : List ℕ) → 1 ≤ most
    → flat_map (λ (p : Piece). p.payload) (pieces most offset bytes) ≡ bytes

-- each begins where the one before it ended, has data, at most so many bytes, and exactly the last is marked
unfoldable pub AreInTurn : ℕ → ℕ → List Piece → Type 0
AreInTurn most offset [] = Unit {0}
AreInTurn most offset (p ∷ ps) = (p.offset ≡ offset) × (1 ≤ length p.payload) × (length p.payload ≤ most)
    × (p.last ≡ (length ps == 0)) × AreInTurn most (offset + length p.payload) ps

abbrev pub PiecesAreInTurn : Type 0
PiecesAreInTurn = (most offset : ℕ) (bytes : List ℕ) → 1 ≤ most → AreInTurn most offset (pieces most offset bytes)
