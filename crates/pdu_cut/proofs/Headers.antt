-- What a common header without a fault says, and that the first 8 bytes decide it.
use Rattle.std.proofs.Common.{◌≡◌, ℕ, ◌≤◌, Bool, true, false, cond, not, ◌==◌, ◌||◌, ◌&&◌, nat_lt, bit_and, List, [], ◌∷◌, ◌++◌, length, take, drop, Option, Some, None, Ok, Err, refl, sym, ap, subst, ◌∙◌, arith, lit≤}
use Rattle.std.proofs.lemmas.Bool.Decides.{nat_tests}
use Rattle.std.proofs.lemmas.List.{take-append-drop, length-take-le}
use Rattle.nvt_fields.specs.Field.{field_at}
use Rattle.nvt_fields.specs.declared.pdu_type.PduType.{PduType}
use Rattle.nvt_fields.specs.declared.pdu_type.PduType.TheVariants.{IcReq, IcResp, H2cTermReq, C2hTermReq, CapsuleCmd, CapsuleResp, H2cData, C2hData, R2t}
use Rattle.pdu_cut.specs.declared.side.Side.{Side}
use Rattle.pdu_cut.specs.declared.header.CommonHeader.{CommonHeader}
use Rattle.pdu_cut.specs.CommonHeader.{header_of, layout_of, places_data, is_misplaced, invalid_field, kind_or_fault, type_or_fault}
use Rattle.pdu_cut.specs.Side.{comes_to}
use Rattle.pdu_cut.specs.Pdu.{Pdu, IsPdu, data_start}

-- no test of a chain of five refused
record Past (a b c d e : Bool) {X : Type 0} (kind found : X) : Type 0 where
  first : a ≡ false
  second : b ≡ false
  third : c ≡ false
  fourth : d ≡ false
  fifth : e ≡ false
  same : kind ≡ found

past : {X E : Type 0} (a b c d e : Bool) (u v w x y : E) (kind found : X)
    → cond a (Err u) (cond b (Err v) (cond c (Err w) (cond d (Err x) (cond e (Err y) (Ok kind))))) ≡ Ok found
    → Past a b c d e kind found
past true b c d e u v w x y kind found h = cc
past false true c d e u v w x y kind found h = cc
past false false true d e u v w x y kind found h = cc
past false false false true e u v w x y kind found h = cc
past false false false false true u v w x y kind found h = cc
past false false false false false u v w x y kind found h =
    record { first = refl; second = refl; third = refl; fourth = refl; fifth = refl; same = cc }

-- what a header without a fault says of a PDU of this type
pub record Passes (kind : PduType) (header : CommonHeader) : Type 0 where
  pub hlen : header.hlen ≡ (layout_of kind).header_len
  pub shortest : (layout_of kind).shortest ≤ header.plen
  pub longest : header.plen ≤ (layout_of kind).longest
  pub placed : (places_data kind header.plen && is_misplaced header) ≡ false

hlen_is : (m n : ℕ) → (not (m == n)) ≡ false → m ≡ n
hlen_is m n h = grind (arith, nat_tests)

plen_within : (n low high : ℕ) → (nat_lt n low || nat_lt high n) ≡ false → (low ≤ n) × (n ≤ high)
plen_within n low high h = grind (arith, nat_tests)

passes_by : (side : Side) (o : Option PduType) (header : CommonHeader) (kind : PduType)
    → kind_or_fault side o header ≡ Ok kind → Passes kind header
passes_by side None header kind h = cc
passes_by side (Some k) header kind h =
    let l = layout_of k in
    let p = past
    (not (comes_to side k))
    (not (bit_and header.flags l.digest_flags == 0))
    (not (header.hlen == l.header_len))
    (nat_lt header.plen l.shortest || nat_lt l.longest header.plen)
    (places_data k header.plen && is_misplaced header)
    (invalid_field 0) (invalid_field 1) (invalid_field 2) (invalid_field 4) (invalid_field 3) k kind h in
    let bounds = plen_within header.plen (layout_of k).shortest (layout_of k).longest p.fourth in
    let passed : Passes k header = record {
      hlen = hlen_is _ _ p.third;
      shortest = bounds.0;
      longest = bounds.1;
      placed = p.fifth;
    } in
    subst (λ (x : PduType). Passes x header) p.same passed

pub passes_header : (side : Side) (header : CommonHeader) (kind : PduType)
    → type_or_fault side header ≡ Ok kind → Passes kind header
passes_header side header kind h = passes_by side _ header kind h

-- the header of a PDU without a fault
pub passes : (side : Side) (pdu : Pdu) → IsPdu side pdu → Passes pdu.kind (header_of pdu.bytes)
passes side pdu h = passes_by side _ _ _ h.header

-- each header has the common header's 8 bytes, and each PDU has its header
pub least_header : (kind : PduType) → (8 ≤ (layout_of kind).header_len) × ((layout_of kind).header_len ≤ (layout_of kind).shortest)
least_header IcReq = (lit≤ tt, lit≤ tt)
least_header IcResp = (lit≤ tt, lit≤ tt)
least_header H2cTermReq = (lit≤ tt, lit≤ tt)
least_header C2hTermReq = (lit≤ tt, lit≤ tt)
least_header CapsuleCmd = (lit≤ tt, lit≤ tt)
least_header CapsuleResp = (lit≤ tt, lit≤ tt)
least_header H2cData = (lit≤ tt, lit≤ tt)
least_header C2hData = (lit≤ tt, lit≤ tt)
least_header R2t = (lit≤ tt, lit≤ tt)

-- a PDU has its whole header
pub header_within : (side : Side) (pdu : Pdu) → IsPdu side pdu → (layout_of pdu.kind).header_len ≤ length pdu.bytes
header_within side pdu h = omega (arith, least_header pdu.kind, (passes side pdu h).shortest, h.len)

-- a PDU has a common header
pub eight_within : (side : Side) (pdu : Pdu) → IsPdu side pdu → 8 ≤ length pdu.bytes
eight_within side pdu h = omega (arith, least_header pdu.kind, header_within side pdu h)

pdo_within : (header : CommonHeader) → is_misplaced header ≡ false → header.pdo ≤ header.plen
pdo_within header h = grind (arith, nat_tests)

placed_within : (header : CommonHeader) → is_misplaced header ≡ false
    → cond (nat_lt header.hlen header.plen) header.pdo header.plen ≤ header.plen
placed_within header h = let w = pdo_within header h in grind (arith, nat_tests)

capsule_within : (header : CommonHeader) → header.hlen ≡ 72 → (nat_lt 72 header.plen && is_misplaced header) ≡ false
    → cond (nat_lt header.hlen header.plen) header.pdo header.plen ≤ header.plen
capsule_within header e h = grind (arith, nat_tests, pdo_within)

-- the data begins inside the PDU
data_within_by : (kind : PduType) (header : CommonHeader) → Passes kind header → data_start kind header ≤ header.plen
data_within_by CapsuleCmd header p = capsule_within header p.hlen p.placed
data_within_by H2cData header p = placed_within header p.placed
data_within_by C2hData header p = placed_within header p.placed
data_within_by H2cTermReq header p = omega (arith, p.hlen, p.shortest)
data_within_by C2hTermReq header p = omega (arith, p.hlen, p.shortest)
data_within_by IcReq header p = omega arith
data_within_by IcResp header p = omega arith
data_within_by CapsuleResp header p = omega arith
data_within_by R2t header p = omega arith

pub data_within : (side : Side) (pdu : Pdu) → IsPdu side pdu → data_start pdu.kind (header_of pdu.bytes) ≤ length pdu.bytes
data_within side pdu h = rw h.len (data_within_by pdu.kind (header_of pdu.bytes) (passes side pdu h))

-- what follows 8 bytes is no part of the common header
pub header_of-append : (s t : List ℕ) → 8 ≤ length s → header_of (s ++ t) ≡ header_of s
unfolding field_at
header_of-append [] t h = absurd (omega arith)
header_of-append (a ∷ []) t h = absurd (omega arith)
header_of-append (a ∷ b ∷ []) t h = absurd (omega arith)
header_of-append (a ∷ b ∷ c ∷ []) t h = absurd (omega arith)
header_of-append (a ∷ b ∷ c ∷ d ∷ []) t h = absurd (omega arith)
header_of-append (a ∷ b ∷ c ∷ d ∷ e ∷ []) t h = absurd (omega arith)
header_of-append (a ∷ b ∷ c ∷ d ∷ e ∷ f ∷ []) t h = absurd (omega arith)
header_of-append (a ∷ b ∷ c ∷ d ∷ e ∷ f ∷ g ∷ []) t h = absurd (omega arith)
header_of-append (a ∷ b ∷ c ∷ d ∷ e ∷ f ∷ g ∷ k ∷ rest) t h = refl

pub header_of-take : (n : ℕ) (s : List ℕ) → 8 ≤ n → n ≤ length s → header_of (take n s) ≡ header_of s
header_of-take n s low high =
    sym (header_of-append (take n s) (drop n s) (omega (arith, length-take-le n s high)))
    ∙ ap header_of (take-append-drop n s)
