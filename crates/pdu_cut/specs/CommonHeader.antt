-- The common header of a PDU and what it must say (TCP Transport 1.0, section 3.6).
use Rattle.std.specs.Prelude.{ℕ, ◌%◌, Bool, true, false, not, ◌==◌, ◌||◌, ◌&&◌, nat_lt, bit_and, List, slice_index, Option, Some, None, Result, Ok, Err, if◌then◌else◌}
use Rattle.nvt_fields.specs.Field.{field_at}
use Rattle.nvt_fields.specs.PduType.{type_of_code}
use Rattle.nvt_fields.specs.declared.termination.FatalErrorStatus.TheVariants.{InvalidHeaderField}
use Rattle.nvt_fields.specs.declared.pdu_type.PduType.{PduType}
use Rattle.nvt_fields.specs.declared.pdu_type.PduType.TheVariants.{IcReq, IcResp, H2cTermReq, C2hTermReq, CapsuleCmd, CapsuleResp, H2cData, C2hData, R2t}
use Rattle.pdu_cut.specs.declared.side.Side.{Side}
use Rattle.pdu_cut.specs.declared.header.CommonHeader.{CommonHeader}
use Rattle.pdu_cut.specs.declared.header.HeaderFault.{HeaderFault}
use Rattle.pdu_cut.specs.declared.header.Layout.{Layout}
use Rattle.pdu_cut.specs.Side.{comes_to}

-- the common header that a PDU of these bytes has: type, FLAGS, HLEN, PDO, and PLEN in 4 bytes
abbrev pub header_of : List ℕ → CommonHeader
header_of bytes = record {
  code = slice_index bytes 0;
  flags = slice_index bytes 1;
  hlen = slice_index bytes 2;
  pdo = slice_index bytes 3;
  plen = field_at 4 4 bytes;
}

-- Bit 0 of FLAGS announces a header digest, bit 1 a data digest. No digest is ever enabled, so the
-- types that have these flags may not set them.
abbrev pub layout_of : PduType → Layout
layout_of IcReq = record { digest_flags = 0; header_len = 128; shortest = 128; longest = 128 }
layout_of IcResp = record { digest_flags = 0; header_len = 128; shortest = 128; longest = 128 }
layout_of H2cTermReq = record { digest_flags = 0; header_len = 24; shortest = 24; longest = 152 }
layout_of C2hTermReq = record { digest_flags = 0; header_len = 24; shortest = 24; longest = 152 }
layout_of CapsuleCmd = record { digest_flags = 3; header_len = 72; shortest = 72; longest = 32768 }
layout_of CapsuleResp = record { digest_flags = 1; header_len = 24; shortest = 24; longest = 24 }
layout_of H2cData = record { digest_flags = 3; header_len = 24; shortest = 24; longest = 32768 }
layout_of C2hData = record { digest_flags = 3; header_len = 24; shortest = 24; longest = 135168 }
layout_of R2t = record { digest_flags = 1; header_len = 24; shortest = 24; longest = 24 }

-- whether a PDU of this type and length has data that begins at PDO
abbrev pub places_data : PduType → ℕ → Bool
places_data CapsuleCmd plen = nat_lt 72 plen
places_data H2cData plen = true
places_data C2hData plen = true
places_data _ plen = false

-- PDO is inside the header, behind the PDU's end, or no multiple of 4
abbrev pub is_misplaced : CommonHeader → Bool
is_misplaced header =
    nat_lt header.pdo header.hlen || (nat_lt header.plen header.pdo || not (header.pdo % 4 == 0))

-- the field at this offset of the header is invalid
abbrev pub invalid_field : ℕ → HeaderFault
invalid_field offset = record { fes = InvalidHeaderField; fei = offset }

-- the checks in their order: type, FLAGS, HLEN, PLEN, and PDO last, since PLEN bounds it
abbrev pub kind_or_fault : Side → Option PduType → CommonHeader → Result PduType HeaderFault
kind_or_fault side None header = Err (invalid_field 0)
kind_or_fault side (Some kind) header =
    if not (comes_to side kind) then Err (invalid_field 0) else
    if not (bit_and header.flags (layout_of kind).digest_flags == 0) then Err (invalid_field 1) else
    if not (header.hlen == (layout_of kind).header_len) then Err (invalid_field 2) else
    if nat_lt header.plen (layout_of kind).shortest || nat_lt (layout_of kind).longest header.plen
    then Err (invalid_field 4) else
    if places_data kind header.plen && is_misplaced header then Err (invalid_field 3) else
    Ok kind

-- the type of the PDU that a header begins, or the header's first fault for the side that receives
abbrev pub type_or_fault : Side → CommonHeader → Result PduType HeaderFault
type_or_fault side header = kind_or_fault side (type_of_code header.code) header
