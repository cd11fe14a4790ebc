-- What stands at the front of a string of bytes (TCP Transport 1.0, section 3.6).
use Rattle.std.specs.Prelude.{◌≡◌, ℕ, ◌≤◌, List, length, take, nat_lt, Result, Ok, Err, if◌then◌else◌}
use Rattle.nvt_fields.specs.declared.pdu_type.PduType.{PduType}
use Rattle.pdu_cut.specs.declared.side.Side.{Side}
use Rattle.pdu_cut.specs.declared.header.HeaderFault.{HeaderFault}
use Rattle.pdu_cut.specs.CommonHeader.{header_of, type_or_fault}
use Rattle.pdu_cut.specs.Pdu.{Pdu, IsPdu}

-- less than a PDU; a whole one, whatever follows; or the first fault of a common header, and the 8
-- bytes of that header
pub data Front : Type 0 where
  incomplete : Front
  whole : Pdu → Front
  faulty : HeaderFault → List ℕ → Front

-- the front of bytes that begin with a common header
abbrev pub front_by : Result PduType HeaderFault → List ℕ → Front
front_by (Err fault) bytes = faulty fault (take 8 bytes)
front_by (Ok kind) bytes =
    if nat_lt (length bytes) (header_of bytes).plen then incomplete else
    whole (record { kind = kind; bytes = take (header_of bytes).plen bytes })

-- the front of bytes that come to this side; 8 of them decide of a fault
abbrev pub front : Side → List ℕ → Front
front side bytes =
    if nat_lt (length bytes) 8 then incomplete else
    front_by (type_or_fault side (header_of bytes)) bytes

-- a whole PDU stands at the front of the bytes
pub record BeginsWithPdu (side : Side) (held : List ℕ) (pdu : Pdu) : Type 0 where
  pub is_pdu : IsPdu side pdu
  pub within : length pdu.bytes ≤ length held
  pub begins : pdu.bytes ≡ take (length pdu.bytes) held
