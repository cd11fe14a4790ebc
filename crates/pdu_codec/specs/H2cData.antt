-- Data of a command, to the controller that asked for them (TCP Transport 1.0, section 3.6).
use Rattle.std.specs.Prelude.{ℕ, ◌+◌, ◌-◌, List, [], ◌∷◌, ◌++◌, length, replicate, Bool}
use Rattle.std.specs.Int.{w16, w32, to_le_bytes}
use Rattle.nvt_fields.specs.declared.pdu_type.PduType.TheVariants as types
use Rattle.pdu_codec.specs.declared.h2c_data.H2cData.{H2cData}
use Rattle.pdu_codec.specs.C2hData.{data_offset, flags_of}
use Rattle.pdu_codec.specs.CommonHeader.{common_header}

-- an H2CData without where its data lies in memory
pub record Sent : Type 0 where
  pub cccid : ℕ
  pub ttag : ℕ
  pub offset : ℕ
  pub last : Bool
  pub cpda : ℕ
  pub payload : List ℕ

-- CCCID, TTAG, DATAO and DATAL, with reserved bytes after the last
abbrev pub sent_fields : Sent → List ℕ
sent_fields s =
    to_le_bytes w16 s.cccid ++ to_le_bytes w16 s.ttag ++ to_le_bytes w32 s.offset ++ to_le_bytes w32 (length s.payload)
    ++ (0 ∷ 0 ∷ 0 ∷ 0 ∷ [])

-- Zeros stand between the header and the data, which begins at a multiple of the controller's alignment.
abbrev pub h2c_data : Sent → List ℕ
h2c_data s =
    let pdo = data_offset s.cpda in
    common_header types.H2cData (flags_of s.last) 24 pdo (pdo + length s.payload)
    ++ sent_fields s ++ replicate (pdo - 24) 0 ++ s.payload

abbrev pub sent_of : H2cData → Sent
sent_of d = record { cccid = d.cccid; ttag = d.ttag; offset = d.offset; last = d.last; cpda = d.cpda; payload = d.payload.now }
