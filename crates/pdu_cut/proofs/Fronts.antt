-- When the front of some bytes is a whole PDU.
use Rattle.std.proofs.Common.{◌≡◌, ℕ, ◌≤◌, ◌<◌, Bool, true, false, cond, nat_lt, List, ◌++◌, length, take, drop, Result, Ok, Err, refl, sym, ap, subst, ◌∙◌, arith, length-append, append_assoc}
use Rattle.std.proofs.lemmas.Bool.{ltb-false, lt-ltb, le-ltb}
use Rattle.std.proofs.lemmas.List.{take-append-drop, take-append-le, length-take-le, take_at}
use Rattle.nvt_fields.specs.declared.pdu_type.PduType.{PduType}
use Rattle.pdu_cut.specs.declared.side.Side.{Side}
use Rattle.pdu_cut.specs.declared.header.CommonHeader.{CommonHeader}
use Rattle.pdu_cut.specs.declared.header.HeaderFault.{HeaderFault}
use Rattle.pdu_cut.specs.CommonHeader.{header_of, type_or_fault}
use Rattle.pdu_cut.specs.Pdu.{Pdu, IsPdu}
use Rattle.pdu_cut.specs.Front.{incomplete, whole, faulty, front, front_by, BeginsWithPdu}
use Rattle.pdu_cut.proofs.Headers.{passes_header, least_header, eight_within, header_of-append, header_of-take}

-- the first PLEN bytes behind a header without a fault are a PDU
pub pdu_at : (side : Side) (bytes : List ℕ) (kind : PduType)
    → type_or_fault side (header_of bytes) ≡ Ok kind → (header_of bytes).plen ≤ length bytes
    → IsPdu side (record { kind = kind; bytes = take (header_of bytes).plen bytes })
pdu_at side bytes kind e h =
    let same : header_of (take (header_of bytes).plen bytes) ≡ header_of bytes =
    header_of-take (header_of bytes).plen bytes
    (omega (arith, least_header kind, (passes_header side (header_of bytes) kind e).shortest)) h in
    record {
      header = ap (type_or_fault side) same ∙ e;
      len = length-take-le (header_of bytes).plen bytes h ∙ sym (ap (λ (x : CommonHeader). x.plen) same);
    }

-- and they stand at the front
pub front_at : (side : Side) (bytes : List ℕ) (kind : PduType)
    → type_or_fault side (header_of bytes) ≡ Ok kind → (header_of bytes).plen ≤ length bytes
    → BeginsWithPdu side bytes (record { kind = kind; bytes = take (header_of bytes).plen bytes })
front_at side bytes kind e h =
    let len = length-take-le (header_of bytes).plen bytes h in
    record {
      is_pdu = pdu_at side bytes kind e h;
      within = rw len h;
      begins = ap (λ (n : ℕ). take n bytes) (sym len);
    }

long_enough : (side : Side) (bytes : List ℕ) (kind : PduType) (pdu : Pdu) (short : Bool)
    → nat_lt (length bytes) (header_of bytes).plen ≡ short → type_or_fault side (header_of bytes) ≡ Ok kind
    → cond short incomplete (whole (record { kind = kind; bytes = take (header_of bytes).plen bytes })) ≡ whole pdu
    → BeginsWithPdu side bytes pdu
long_enough side bytes kind pdu true s e h = cc
long_enough side bytes kind pdu false s e h =
    let n = (header_of bytes).plen in
    let le : n ≤ length bytes = ltb-false (length bytes) n s in
    let found : Pdu = record { kind = kind; bytes = take n bytes } in
    let same : found ≡ pdu = cc in
    let stands : BeginsWithPdu side bytes found = front_at side bytes kind e le in
    subst (λ (x : Pdu). BeginsWithPdu side bytes x) same stands

front_by_whole : (side : Side) (bytes : List ℕ) (r : Result PduType HeaderFault) (pdu : Pdu)
    → type_or_fault side (header_of bytes) ≡ r → front_by r bytes ≡ whole pdu → BeginsWithPdu side bytes pdu
front_by_whole side bytes (Err fault) pdu e h = cc
front_by_whole side bytes (Ok kind) pdu e h = long_enough side bytes kind pdu _ refl e h

pub front_whole : (side : Side) (bytes : List ℕ) (pdu : Pdu) → front side bytes ≡ whole pdu → BeginsWithPdu side bytes pdu
front_whole side bytes pdu h = by_length _ h
  where
    by_length : (short : Bool) → cond short incomplete (front_by (type_or_fault side (header_of bytes)) bytes) ≡ whole pdu → BeginsWithPdu side bytes pdu
    by_length true h = cc
    by_length false h = front_by_whole side bytes _ pdu refl h

-- the bytes are the PDU at the front and what follows
pub front_then : (side : Side) (bytes : List ℕ) (pdu : Pdu) → BeginsWithPdu side bytes pdu
    → bytes ≡ pdu.bytes ++ drop (length pdu.bytes) bytes
front_then side bytes pdu f =
    let n = length pdu.bytes in
    sym (take-append-drop n bytes) ∙ ap (λ (x : List ℕ). x ++ drop n bytes) (sym f.begins)

-- a PDU is the front of itself, whatever follows
pub front-append : (side : Side) (pdu : Pdu) (rest : List ℕ) → IsPdu side pdu → front side (pdu.bytes ++ rest) ≡ whole pdu
front-append side pdu rest h =
    let eight = eight_within side pdu h in
    let bytes = pdu.bytes ++ rest in
    let same : header_of bytes ≡ header_of pdu.bytes = header_of-append pdu.bytes rest eight in
    let long : nat_lt (length bytes) 8 ≡ false = le-ltb (length bytes) 8 (omega (arith, length-append pdu.bytes rest)) in
    let kind : type_or_fault side (header_of bytes) ≡ Ok pdu.kind = ap (type_or_fault side) same ∙ h.header in
    let plen : (header_of bytes).plen ≡ length pdu.bytes = ap (λ (x : CommonHeader). x.plen) same ∙ sym h.len in
    let enough : nat_lt (length bytes) (length pdu.bytes) ≡ false = le-ltb (length bytes) (length pdu.bytes) (omega (arith, length-append pdu.bytes rest)) in
    rw (long, kind, plen, enough, take_at pdu.bytes rest (length pdu.bytes) refl) refl

-- more bytes behind a whole PDU leave it at the front
pub front_whole-append : (side : Side) (bytes more : List ℕ) (pdu : Pdu)
    → front side bytes ≡ whole pdu → front side (bytes ++ more) ≡ whole pdu
front_whole-append side bytes more pdu h =
    let f = front_whole side bytes pdu h in
    let rest = drop (length pdu.bytes) bytes in
    ap (λ (x : List ℕ). front side (x ++ more)) (front_then side bytes pdu f)
    ∙ ap (front side) (append_assoc pdu.bytes rest more)
    ∙ front-append side pdu (rest ++ more) f.is_pdu

-- what a look finds once the common header is there: a fault, too few bytes, or a PDU
pub front_faulty : (side : Side) (bytes : List ℕ) (fault : HeaderFault) → 8 ≤ length bytes
    → type_or_fault side (header_of bytes) ≡ Err fault → front side bytes ≡ faulty fault (take 8 bytes)
front_faulty side bytes fault long e = rw (le-ltb (length bytes) 8 long, e) refl

pub front_short : (side : Side) (bytes : List ℕ) (kind : PduType) → 8 ≤ length bytes
    → type_or_fault side (header_of bytes) ≡ Ok kind → length bytes < (header_of bytes).plen
    → front side bytes ≡ incomplete
front_short side bytes kind long e h =
    rw (le-ltb (length bytes) 8 long, e, lt-ltb (length bytes) (header_of bytes).plen h) refl

pub front_pdu : (side : Side) (bytes : List ℕ) (kind : PduType) → 8 ≤ length bytes
    → type_or_fault side (header_of bytes) ≡ Ok kind → (header_of bytes).plen ≤ length bytes
    → front side bytes ≡ whole (record { kind = kind; bytes = take (header_of bytes).plen bytes })
front_pdu side bytes kind long e h =
    rw (le-ltb (length bytes) 8 long, e, le-ltb (length bytes) (header_of bytes).plen h) refl

-- more bytes leave a fault as it is
faulty_by : (side : Side) (bytes more : List ℕ) (r : Result PduType HeaderFault) (fault : HeaderFault) (head : List ℕ)
    → 8 ≤ length bytes → type_or_fault side (header_of bytes) ≡ r → front_by r bytes ≡ faulty fault head
    → front side (bytes ++ more) ≡ faulty fault head
faulty_by side bytes more (Err f) fault head long e h =
    front_faulty side (bytes ++ more) f (omega (arith, length-append bytes more))
    (ap (type_or_fault side) (header_of-append bytes more long) ∙ e)
    ∙ ap (faulty f) (take-append-le 8 bytes more long) ∙ h
faulty_by side bytes more (Ok kind) fault head long e h = absurd (no_fault _ h)
  where
    no_fault : (short : Bool) → cond short incomplete (whole (record { kind = kind; bytes = take (header_of bytes).plen bytes })) ≡ faulty fault head → ⊥
    no_fault true h = cc
    no_fault false h = cc

pub front_faulty-append : (side : Side) (bytes more : List ℕ) (fault : HeaderFault) (head : List ℕ)
    → front side bytes ≡ faulty fault head → front side (bytes ++ more) ≡ faulty fault head
front_faulty-append side bytes more fault head h = by_length _ refl h
  where
    by_length : (short : Bool) → nat_lt (length bytes) 8 ≡ short
        → cond short incomplete (front_by (type_or_fault side (header_of bytes)) bytes) ≡ faulty fault head
        → front side (bytes ++ more) ≡ faulty fault head
    by_length true e h = cc
    by_length false e h = faulty_by side bytes more _ fault head (ltb-false (length bytes) 8 e) refl h
