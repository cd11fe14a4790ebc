-- Data of a command, to the host (TCP Transport 1.0, section 3.6).
use Rattle.std.specs.Prelude.{ℕ, ◌+◌, ◌-◌, ◌*◌, List, [], ◌∷◌, ◌++◌, length, take, replicate, Bool, if◌then◌else◌}
use Rattle.std.specs.Int.{w16, w32, to_le_bytes, next_multiple_of}
use Rattle.nvt_fields.specs.declared.pdu_type.PduType.TheVariants as types
use Rattle.pdu_codec.specs.declared.data_pdu.C2hData.{C2hData}
use Rattle.pdu_codec.specs.declared.data_pdu.C2hHead.{C2hHead}
use Rattle.pdu_codec.specs.CommonHeader.{common_header}

-- Where the data begins: after the header of 24 bytes, at a multiple of the host's alignment. HPDA is
-- in units of 4 bytes, and 0 stands for one of them.
abbrev pub data_offset : ℕ → ℕ
data_offset hpda = next_multiple_of 24 ((hpda + 1) * 4)

-- a C2HData without where its data lies in memory
pub record Piece : Type 0 where
  pub cid : ℕ
  pub offset : ℕ
  pub last : Bool
  pub hpda : ℕ
  pub payload : List ℕ

-- CCCID, DATAO and DATAL, with reserved bytes after the first and the last
abbrev pub data_fields : ℕ → ℕ → ℕ → List ℕ
data_fields cid offset len =
    to_le_bytes w16 cid ++ (0 ∷ 0 ∷ []) ++ to_le_bytes w32 offset ++ to_le_bytes w32 len ++ (0 ∷ 0 ∷ 0 ∷ 0 ∷ [])

-- bit 2 of FLAGS marks the last data of its command
abbrev pub flags_of : Bool → ℕ
flags_of last = if last then 4 else 0

-- Zeros stand between the header and the data.
abbrev pub c2h_data : Piece → List ℕ
c2h_data p =
    let pdo = data_offset p.hpda in
    common_header types.C2hData (flags_of p.last) 24 pdo (pdo + length p.payload)
    ++ data_fields p.cid p.offset (length p.payload) ++ replicate (pdo - 24) 0 ++ p.payload

abbrev pub piece_of : C2hData → Piece
piece_of d = record { cid = d.cid; offset = d.offset; last = d.last; hpda = d.hpda; payload = d.payload.now }

-- all that the header says: of the data it has the length alone, so that they can be written behind it later
abbrev pub head_of : C2hData → C2hHead
head_of d = record { cid = d.cid; offset = d.offset; last = d.last; hpda = d.hpda; len = length d.payload.now }

-- the C2HData of a head with these bytes as its data
abbrev pub piece_with : C2hHead → List ℕ → Piece
piece_with h payload = record { cid = h.cid; offset = h.offset; last = h.last; hpda = h.hpda; payload = payload }

-- the bytes with others of their length written over their end
abbrev pub with_end : List ℕ → List ℕ → List ℕ
with_end bytes payload = take (length bytes - length payload) bytes ++ payload
