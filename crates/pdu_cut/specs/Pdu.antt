-- A whole PDU and its parts (TCP Transport 1.0, section 3.6).
use Rattle.std.specs.Prelude.{◌≡◌, ℕ, List, length, take, drop, nat_lt, Ok, if◌then◌else◌}
use Rattle.nvt_fields.specs.declared.pdu_type.PduType.{PduType}
use Rattle.nvt_fields.specs.declared.pdu_type.PduType.TheVariants.{H2cTermReq, C2hTermReq, CapsuleCmd, H2cData, C2hData}
use Rattle.pdu_cut.specs.declared.side.Side.{Side}
use Rattle.pdu_cut.specs.declared.header.CommonHeader.{CommonHeader}
use Rattle.pdu_cut.specs.CommonHeader.{header_of, layout_of, type_or_fault}

-- a PDU's type and all its bytes
pub record Pdu : Type 0 where
  pub kind : PduType
  pub bytes : List ℕ

-- the bytes are one whole PDU of that type, as it may come to this side: its common header has no
-- fault, and there are as many bytes as PLEN says
pub record IsPdu (side : Side) (pdu : Pdu) : Type 0 where
  pub header : type_or_fault side (header_of pdu.bytes) ≡ Ok pdu.kind
  pub len : length pdu.bytes ≡ (header_of pdu.bytes).plen

-- the same, whichever side it comes to
abbrev pub IsWhole : Pdu → Type 0
IsWhole pdu = (side : Side) × IsPdu side pdu

-- the header: HLEN bytes, a number that the type fixes
abbrev pub header_part : Pdu → List ℕ
header_part pdu = take (layout_of pdu.kind).header_len pdu.bytes

-- where the data begins: at PDO where there is data behind it; behind the header of a termination
-- request, whose PDO is reserved; else at the end, since there is none
abbrev pub data_start : PduType → CommonHeader → ℕ
data_start CapsuleCmd header = if nat_lt header.hlen header.plen then header.pdo else header.plen
data_start H2cData header = if nat_lt header.hlen header.plen then header.pdo else header.plen
data_start C2hData header = if nat_lt header.hlen header.plen then header.pdo else header.plen
data_start H2cTermReq header = header.hlen
data_start C2hTermReq header = header.hlen
data_start _ header = header.plen

-- the data: the bytes from there to PLEN
abbrev pub data_part : Pdu → List ℕ
data_part pdu = drop (data_start pdu.kind (header_of pdu.bytes)) pdu.bytes
