-- What stands at the front of a stream is short.
use Rattle.std.proofs.Common.{◌≡◌, ℕ, ◌≤◌, Bool, true, false, Result, Ok, Err, List, length, take, arith}
use Rattle.std.proofs.lemmas.List.{length-take}
use Rattle.std.specs.Prelude.{if◌then◌else◌, nat_lt}
use Rattle.nvt_fields.specs.declared.pdu_type.PduType.{PduType}
use Rattle.nvt_fields.specs.declared.pdu_type.PduType.TheVariants.{IcReq, IcResp, H2cTermReq, C2hTermReq, CapsuleCmd, CapsuleResp, H2cData, C2hData, R2t}
use Rattle.pdu_cut.specs.declared.side.Side.{Side}
use Rattle.pdu_cut.specs.CommonHeader.{header_of, layout_of, type_or_fault}
use Rattle.pdu_cut.specs.Front.{Front, front, front_by, incomplete, whole}
use Rattle.pdu_cut.specs.Short.{IsShort}

header_small : (kind : PduType) → (layout_of kind).header_len ≤ 128
header_small IcReq = omega arith
header_small IcResp = omega arith
header_small H2cTermReq = omega arith
header_small C2hTermReq = omega arith
header_small CapsuleCmd = omega arith
header_small CapsuleResp = omega arith
header_small H2cData = omega arith
header_small C2hData = omega arith
header_small R2t = omega arith

short_by : (held : List ℕ) (found : Result PduType _) → IsShort (front_by found held)
short_by held (Err fault) = omega (arith, length-take 8 held)
short_by held (Ok kind) = by_len (nat_lt (length held) (header_of held).plen)
  where
    by_len : (few : Bool) → IsShort (if few then incomplete else whole (record { kind = kind; bytes = take (header_of held).plen held }))
    by_len true = tt
    by_len false = omega (arith, header_small kind, length-take (layout_of kind).header_len (take (header_of held).plen held))

short_here : (side : Side) (held : List ℕ) (few : Bool) → IsShort (if few then incomplete else front_by (type_or_fault side (header_of held)) held)
short_here side held true = tt
short_here side held false = short_by held (type_or_fault side (header_of held))

pub is_short : (side : Side) (held : List ℕ) (found : Front) → found ≡ front side held → IsShort found
is_short side held found is = rw is (short_here side held (nat_lt (length held) 8))
