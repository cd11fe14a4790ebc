-- Less than a PDU is less than what a target's receive buffer holds.
use Rattle.std.proofs.Common.{◌≡◌, ℕ, ◌≤◌, ◌<◌, Bool, true, false, cond, not, ◌==◌, ◌||◌, ◌&&◌, nat_lt, bit_and, List, length, take, Option, Some, None, Result, Ok, Err, refl, sym, ap, ◌∙◌, arith}
use Rattle.std.proofs.lemmas.Bool.{ltb-true}
use Rattle.nvt_fields.specs.declared.pdu_type.PduType.{PduType}
use Rattle.nvt_fields.specs.declared.pdu_type.PduType.TheVariants.{IcReq, IcResp, H2cTermReq, C2hTermReq, CapsuleCmd, CapsuleResp, H2cData, C2hData, R2t}
use Rattle.pdu_cut.specs.declared.side.Side.{Side}
use Rattle.pdu_cut.specs.declared.side.Side.TheVariants.{Target}
use Rattle.pdu_cut.specs.CommonHeader.{header_of, layout_of, places_data, is_misplaced, invalid_field, kind_or_fault, type_or_fault}
use Rattle.pdu_cut.specs.Side.{comes_to}
use Rattle.pdu_cut.specs.Front.{incomplete, whole, front, front_by}
use Rattle.pdu_cut.proofs.Headers.{Passes, passes_header}

-- what passes a chain of four tests is what stands at its end
passed : {X E : Type 0} (b c d e : Bool) (v w x y : E) (kind found : X)
    → cond b (Err v) (cond c (Err w) (cond d (Err x) (cond e (Err y) (Ok kind)))) ≡ Ok found → kind ≡ found
passed true c d e v w x y kind found h = cc
passed false true d e v w x y kind found h = cc
passed false false true e v w x y kind found h = cc
passed false false false true v w x y kind found h = cc
passed false false false false v w x y kind found h = cc

-- only what is sent to a side passes there
comes : (side : Side) (o : Option PduType) (bytes : List ℕ) (kind : PduType)
    → kind_or_fault side o (header_of bytes) ≡ Ok kind → comes_to side kind ≡ true
comes side None bytes kind h = cc
comes side (Some k) bytes kind h = by_side _ refl h
  where
    by_side : (is : Bool) → comes_to side k ≡ is
        → cond (not is) (Err (invalid_field 0)) (cond (not (bit_and (header_of bytes).flags (layout_of k).digest_flags == 0)) (Err (invalid_field 1))
        (cond (not ((header_of bytes).hlen == (layout_of k).header_len)) (Err (invalid_field 2))
        (cond (nat_lt (header_of bytes).plen (layout_of k).shortest || nat_lt (layout_of k).longest (header_of bytes).plen) (Err (invalid_field 4))
        (cond (places_data k (header_of bytes).plen && is_misplaced (header_of bytes)) (Err (invalid_field 3)) (Ok k))))) ≡ Ok kind
        → comes_to side kind ≡ true
    by_side false e h = cc
    by_side true e h = ap (comes_to side) (sym (passed
        (not (bit_and (header_of bytes).flags (layout_of k).digest_flags == 0))
        (not ((header_of bytes).hlen == (layout_of k).header_len))
        (nat_lt (header_of bytes).plen (layout_of k).shortest || nat_lt (layout_of k).longest (header_of bytes).plen)
        (places_data k (header_of bytes).plen && is_misplaced (header_of bytes))
        (invalid_field 1) (invalid_field 2) (invalid_field 4) (invalid_field 3) k kind h)) ∙ e

by_kind : (kind : PduType) (bytes : List ℕ) → Passes kind (header_of bytes) → comes_to Target kind ≡ true → (header_of bytes).plen ≤ 32768
by_kind IcReq bytes p c = omega (arith, p.longest)
by_kind IcResp bytes p c = omega (arith, p.longest)
by_kind H2cTermReq bytes p c = omega (arith, p.longest)
by_kind C2hTermReq bytes p c = omega (arith, p.longest)
by_kind CapsuleCmd bytes p c = omega (arith, p.longest)
by_kind CapsuleResp bytes p c = omega (arith, p.longest)
by_kind H2cData bytes p c = omega (arith, p.longest)
by_kind C2hData bytes p c = cc
by_kind R2t bytes p c = omega (arith, p.longest)

by_header : (held : List ℕ) (found : Result PduType _) → type_or_fault Target (header_of held) ≡ found
    → front_by found held ≡ incomplete → length held < 32768
by_header held (Err fault) e h = cc
by_header held (Ok kind) e h = by_length _ refl h
  where
    by_length : (short : Bool) → nat_lt (length held) (header_of held).plen ≡ short
        → cond short incomplete (whole (record { kind = kind; bytes = take (header_of held).plen held })) ≡ incomplete
        → length held < 32768
    by_length true s h =
        let most = by_kind kind held (passes_header Target (header_of held) kind e) (comes Target _ held kind e) in
        let less = ltb-true (length held) (header_of held).plen s in
        omega (arith, most, less)
    by_length false s h = cc

pub incomplete_bound : (held : List ℕ) → front Target held ≡ incomplete → length held < 32768
incomplete_bound held h = by_length _ refl h
  where
    by_length : (short : Bool) → nat_lt (length held) 8 ≡ short
        → cond short incomplete (front_by (type_or_fault Target (header_of held)) held) ≡ incomplete → length held < 32768
    by_length true s h = let less = ltb-true (length held) 8 s in omega (arith, less)
    by_length false s h = by_header held _ refl h
