-- What a reader has read, in jumps as byte by byte.
use Rattle.std.proofs.Common.{◌≡◌, ℕ, zero, suc, ◌+◌, ◌-◌, ◌<◌, ◌≤◌, true, false, inl, inr, List, [], ◌∷◌, ◌++◌, length, take, drop, min, refl, sym, ap, subst, ◌∙◌, nat_le, arith, append_assoc, append-nil, length-append, length-drop}
use Rattle.std.proofs.Math.Seq.{take-add, take-length, take-nil}
use Rattle.std.proofs.lemmas.Bool.{both_ways, cases_lt, cases_Bool, leb-true, le-leb}
use Rattle.std.proofs.lemmas.List.{length-take, length-take-le, take-append-drop, take-append-le}
use Rattle.nvt_fields.specs.Field.{field_at}
use Rattle.connection_log.specs.Reading.{none, behind, HasRead, IsInOrder, IsPdu, Reading, ReadsOn, at_first, is_whole, kept, next_pdu, pdu_len, read_on, with_bytes}

pub pdu_len_least : (bytes : List ℕ) → 8 ≤ pdu_len bytes
unfolding pdu_len
pdu_len_least bytes = omega arith

-- it is told by the first 8 bytes
pdu_len-take_8 : (bytes : List ℕ) → 8 ≤ length bytes → pdu_len (take 8 bytes) ≡ pdu_len bytes
unfolding field_at pdu_len
pdu_len-take_8 [] long = absurd (omega arith)
pdu_len-take_8 (a ∷ []) long = absurd (omega arith)
pdu_len-take_8 (a ∷ b ∷ []) long = absurd (omega arith)
pdu_len-take_8 (a ∷ b ∷ c ∷ []) long = absurd (omega arith)
pdu_len-take_8 (a ∷ b ∷ c ∷ d ∷ []) long = absurd (omega arith)
pdu_len-take_8 (a ∷ b ∷ c ∷ d ∷ e ∷ []) long = absurd (omega arith)
pdu_len-take_8 (a ∷ b ∷ c ∷ d ∷ e ∷ f ∷ []) long = absurd (omega arith)
pdu_len-take_8 (a ∷ b ∷ c ∷ d ∷ e ∷ f ∷ g ∷ []) long = absurd (omega arith)
pdu_len-take_8 (a ∷ b ∷ c ∷ d ∷ e ∷ f ∷ g ∷ h ∷ rest) long = refl

pub pdu_len-more : (front more : List ℕ) → 8 ≤ length front → pdu_len (front ++ more) ≡ pdu_len front
pdu_len-more front more long =
    sym (pdu_len-take_8 (front ++ more) (omega (arith, length-append front more)))
    ∙ ap pdu_len (take-append-le 8 front more long)
    ∙ pdu_len-take_8 front long

pub pdu_len-take : (m : ℕ) (bytes : List ℕ) → 8 ≤ m → 8 ≤ length bytes → pdu_len (take m bytes) ≡ pdu_len bytes
pdu_len-take m bytes wide long =
    sym (pdu_len-more (take m bytes) (drop m bytes) (omega (arith, length-take m bytes)))
    ∙ ap pdu_len (take-append-drop m bytes)

pub nothing_in : (l : List ℕ) → length l ≡ 0 → l ≡ []
nothing_in [] empty = refl
nothing_in (x ∷ l) empty = absurd (omega (arith, empty))

pub not_whole : (r : Reading) → r.came < pdu_len r.front → is_whole r ≡ false
not_whole r short =
    elim (cases_Bool (is_whole r)) [
      | inl sure ↦ absurd (omega (arith, leb-true (pdu_len r.front) r.came sure))
      | inr off ↦ off
    ]

-- before the header came whole, no PDU is
pub without_header : (r : Reading) → r.came < 8 → nat_le 8 r.came ≡ is_whole r
without_header r few =
    elim (cases_Bool (nat_le 8 r.came)) [
      | inl sure ↦ absurd (omega (arith, leb-true 8 r.came sure))
      | inr off ↦ off ∙ sym (not_whole r (omega (arith, pdu_len_least r.front)))
    ]

pub short_of : (r : Reading) → is_whole r ≡ false → r.came < pdu_len r.front
short_of r off =
    elim (cases_lt r.came (pdu_len r.front)) [
      | inl lt ↦ lt
      | inr le ↦ absurd (both_ways (is_whole r) off (le-leb (pdu_len r.front) r.came le))
    ]

take-append : (m : ℕ) (xs ys : List ℕ) → take m (xs ++ ys) ≡ take m xs ++ take (m - length xs) ys
take-append zero xs ys = grind arith
take-append (suc m) [] ys = let same : suc m ≡ suc m - 0 = omega arith in ap (λ (n : ℕ). take n ys) same
take-append (suc m) (x ∷ xs) ys =
    let same : m - length xs ≡ suc m - suc (length xs) = omega arith in
    ap (λ (l : List ℕ). x ∷ l) (take-append m xs ys ∙ ap (λ (n : ℕ). take m xs ++ take n ys) same)

kept-nothing : (most : ℕ) (front : List ℕ) → kept most front [] ≡ front
kept-nothing most front = ap (λ (l : List ℕ). front ++ l) (take-nil (most - length front)) ∙ append-nil front

length-kept : (most : ℕ) (front bytes : List ℕ)
    → length (kept most front bytes) ≡ length front + min (most - length front) (length bytes)
length-kept most front bytes =
    length-append front (take (most - length front) bytes)
    ∙ ap (λ n. length front + n) (length-take (most - length front) bytes)

-- in two parts
kept-append : (most : ℕ) (front a b : List ℕ) → kept most (kept most front a) b ≡ kept most front (a ++ b)
kept-append most front a b =
    let room : most - length (kept most front a) ≡ most - length front - length a = omega (arith, length-kept most front a) in
    ap (λ n. kept most front a ++ take n b) room
    ∙ append_assoc front (take (most - length front) a) (take (most - length front - length a) b)
    ∙ ap (λ (l : List ℕ). front ++ l) (sym (take-append (most - length front) a b))

same_reading : (most : ℕ) (m n : ℕ) (xs ys : List ℕ) → m ≡ n → xs ≡ ys
    → let r : Reading = record { most = most; came = m; front = xs } in r ≡ record { most = most; came = n; front = ys }
same_reading most m n xs ys number front = cc

pub with_bytes-append : (a b : List ℕ) (r : Reading) → with_bytes b (with_bytes a r) ≡ with_bytes (a ++ b) r
with_bytes-append a b r =
    same_reading r.most (r.came + length a + length b) (r.came + length (a ++ b)) (kept r.most (kept r.most r.front a) b) (kept r.most r.front (a ++ b))
    (omega (arith, length-append a b)) (kept-append r.most r.front a b)

pub with_bytes-nothing : (r : Reading) → with_bytes [] r ≡ r
with_bytes-nothing r = same_reading r.most (r.came + 0) r.came (kept r.most r.front []) r.front (omega arith) (kept-nothing r.most r.front)

pub read_on-append : (r : Reading) (a b : List ℕ) → read_on r (a ++ b) ≡ read_on (read_on r a) b
read_on-append r [] b = refl
read_on-append r (x ∷ a) b = read_on-append (with_bytes (x ∷ []) (next_pdu r)) a b

-- the front of what is kept, where the header was
header_stays : (most : ℕ) (front bytes : List ℕ) → 8 ≤ length front → pdu_len (kept most front bytes) ≡ pdu_len front
header_stays most front bytes long = pdu_len-more front (take (most - length front) bytes) long

-- as many bytes more of the PDU under way go at most to its end, and to the end of its header while that is not whole
pub record GoesOn (r : Reading) (count : ℕ) : Type 0 where
  pub most : 24 ≤ r.most
  pub front : length r.front ≡ min r.came r.most
  pub within : r.came + count ≤ pdu_len r.front
  pub header : 8 < r.came + count → 8 ≤ r.came

fewer : (r : Reading) (m n : ℕ) → m ≤ n → GoesOn r n → GoesOn r m
fewer r m n le on = record { most = on.most; front = on.front; within = omega (arith, on.within); header = λ h. on.header (omega arith) }

module _ (r : Reading) (bytes : List ℕ) (on : GoesOn r (length bytes)) where
  still_within : r.came + length bytes ≤ pdu_len (kept r.most r.front bytes)
  still_within =
      elim (cases_lt r.came 8) [
        | inl few ↦ elim (cases_lt 8 (r.came + length bytes)) [
          | inl past ↦ absurd (omega (arith, on.header past))
          | inr up ↦ omega (arith, pdu_len_least (kept r.most r.front bytes))
        ]
        | inr long ↦ omega (arith, header_stays r.most r.front bytes (omega (arith, on.front, on.most)), on.within)
      ]

  pub in_order_after : IsInOrder (with_bytes bytes r)
  in_order_after = record {
    most = on.most;
    front = omega (arith, length-kept r.most r.front bytes, on.front);
    within = still_within;
  }

  -- it was not whole before
  short_before : 0 < length bytes → is_whole r ≡ false
  short_before some = not_whole r (omega (arith, on.within))

-- .. as they are kept
pub in_order_on : (r : Reading) (place count : ℕ) (more front : List ℕ) → IsInOrder r → place ≤ pdu_len r.front → (8 < place → 8 ≤ r.came)
    → count ≤ place - r.came → length more ≡ min count (r.most - length r.front) → front ≡ r.front ++ more
    → IsInOrder (record { most = r.most; came = r.came + count; front = front })
in_order_on r place count more front order end header few number items =
    record {
      most = order.most;
      front = ap length items ∙ omega (arith, length-append r.front more, order.front);
      within = elim (cases_lt r.came 8) [
        | inl small ↦ elim (cases_lt 8 place) [
          | inl past ↦ absurd (omega (arith, header past))
          | inr up ↦ omega (arith, pdu_len_least front, order.within)
        ]
        | inr long ↦
            let len : pdu_len front ≡ pdu_len r.front =
            ap pdu_len items ∙ pdu_len-more r.front more (omega (arith, order.front, order.most))
            in
            omega (arith, order.within)
      ];
    }

-- the first PDU of some bytes, as far as it is there
pub first_in_order : (r : Reading) (bytes : List ℕ) (n m : ℕ) (front : List ℕ) → IsInOrder r → r.came ≡ 0 → 8 ≤ length bytes
    → n ≡ min (pdu_len bytes) (length bytes) → m ≡ min n r.most → front ≡ r.front ++ take m bytes
    → IsInOrder (record { most = r.most; came = n; front = front })
first_in_order r bytes n m front order empty there number room items =
    let nothing : r.front ≡ [] = nothing_in r.front (omega (arith, order.front, empty)) in
    let is : front ≡ take m bytes = items ∙ ap (λ (l : List ℕ). l ++ take m bytes) nothing in
    let least : 8 ≤ pdu_len bytes = pdu_len_least bytes in
    let same : pdu_len front ≡ pdu_len bytes =
    ap pdu_len is ∙ pdu_len-take m bytes (omega (arith, order.most, number, room, least, there)) there
    in
    record {
      most = order.most;
      front = ap length is ∙ length-take-le m bytes (omega (arith, number, room)) ∙ room;
      within = omega (arith, number, same);
    }

after_first : (r : Reading) (b : ℕ) (bytes : List ℕ) → GoesOn r (length (b ∷ bytes)) → GoesOn (with_bytes (b ∷ []) r) (length bytes)
after_first r b bytes on =
    let one : IsInOrder (with_bytes (b ∷ []) r) = in_order_after r (b ∷ []) (fewer r 1 (length (b ∷ bytes)) (omega arith) on) in
    record {
      most = on.most;
      front = one.front;
      within = elim (cases_lt r.came 8) [
        | inl few ↦ elim (cases_lt 8 (r.came + length (b ∷ bytes))) [
          | inl past ↦ absurd (omega (arith, on.header past))
          | inr up ↦ omega (arith, pdu_len_least (kept r.most r.front (b ∷ [])))
        ]
        | inr long ↦ omega (arith, header_stays r.most r.front (b ∷ []) (omega (arith, on.front, on.most)), on.within)
      ];
      header = λ h. omega (arith, on.header (omega arith));
    }

-- bytes that go at most to the end are read on at once
pub read_on-within : (r : Reading) (bytes : List ℕ) → GoesOn r (length bytes) → read_on r bytes ≡ with_bytes bytes r
read_on-within r [] on = sym (with_bytes-nothing r)
read_on-within r (b ∷ bytes) on =
    let short : is_whole r ≡ false = short_before r (b ∷ bytes) on (omega arith) in
    rw short (read_on-within (with_bytes (b ∷ []) r) bytes (after_first r b bytes on) ∙ with_bytes-append (b ∷ []) bytes r)

-- none of them is the last but the last
module _ (r : Reading) (bytes : List ℕ) (k n : ℕ) (on : GoesOn r n) (few : n ≤ length bytes) (before : k < n) where
  up_to : length (take k bytes) ≡ k
  up_to = length-take-le k bytes (omega arith)

  short_at : r.came + k < pdu_len (kept r.most r.front (take k bytes))
  short_at =
      elim (cases_lt r.came 8) [
        | inl small ↦ elim (cases_lt 8 (r.came + n)) [
          | inl past ↦ absurd (omega (arith, on.header past))
          | inr up ↦ omega (arith, pdu_len_least (kept r.most r.front (take k bytes)))
        ]
        | inr long ↦ omega (arith, header_stays r.most r.front (take k bytes) (omega (arith, on.front, on.most)), on.within)
      ]

  on_part : GoesOn r (length (take k bytes))
  on_part = fewer r (length (take k bytes)) n (omega (arith, up_to)) on

  pub not_yet : is_whole (read_on r (take k bytes)) ≡ false
  not_yet =
      rw (read_on-within r (take k bytes) on_part)
      (not_whole (with_bytes (take k bytes) r) (omega (arith, short_at, up_to)))

-- from where the next byte belongs
next_once : (r : Reading) → IsInOrder r → next_pdu (next_pdu r) ≡ next_pdu r
next_once r order =
    elim (cases_Bool (is_whole r)) [
      | inl sure ↦ rw sure (rw (not_whole (at_first r.most) (omega (arith, pdu_len_least []))) refl)
      | inr off ↦ rw (off, off) refl
    ]

read_on_next : (r : Reading) (bytes : List ℕ) → IsInOrder r → 0 < length bytes → read_on r bytes ≡ read_on (next_pdu r) bytes
read_on_next r [] order some = absurd (omega arith)
read_on_next r (b ∷ bytes) order some =
    ap (λ (p : Reading). read_on (with_bytes (b ∷ []) p) bytes) (sym (next_once r order))

next_in_order : (r : Reading) → IsInOrder r → IsInOrder (next_pdu r)
next_in_order r order =
    elim (cases_Bool (is_whole r)) [
      | inl sure ↦ rw sure (record { most = order.most; front = omega arith; within = omega arith })
      | inr off ↦ rw off order
    ]

next_short : (r : Reading) → is_whole (next_pdu r) ≡ false
next_short r =
    elim (cases_Bool (is_whole r)) [
      | inl sure ↦ rw sure (not_whole (at_first r.most) (omega (arith, pdu_len_least [])))
      | inr off ↦ rw off off
    ]

-- first up to the end of the header, and then to that of the PDU
module _ (r : Reading) (bytes : List ℕ) (m n : ℕ) (first : GoesOn r m) (few : m ≤ length bytes) where
  in_header : length (take m bytes) ≡ m
  in_header = length-take-le m bytes few

  on_header : GoesOn r (length (take m bytes))
  on_header = fewer r (length (take m bytes)) m (omega (arith, in_header)) first

  behind_header : Reading
  behind_header = with_bytes (take m bytes) r

  to_header : read_on r (take m bytes) ≡ with_bytes (take m bytes) r
  to_header = read_on-within r (take m bytes) on_header

  in_both : (k : ℕ) → read_on r (take (m + k) bytes) ≡ read_on (with_bytes (take m bytes) r) (take k (drop m bytes))
  in_both k =
      ap (read_on r) (take-add m k bytes) ∙ read_on-append r (take m bytes) (take k (drop m bytes))
      ∙ ap (λ (p : Reading). read_on p (take k (drop m bytes))) to_header

  -- it is not whole on the way
  on_the_way : GoesOn (with_bytes (take m bytes) r) n → n ≤ length (drop m bytes) → (k : ℕ) → k < m + n
      → is_whole (read_on r (take k bytes)) ≡ false
  on_the_way second rest k before =
      elim (cases_lt k m) [
        | inl early ↦ not_yet r bytes k m first few early
        | inr late ↦
            let there : m + (k - m) ≡ k = omega arith in
            rw (← there, in_both (k - m)) (not_yet (with_bytes (take m bytes) r) (drop m bytes) (k - m) n second rest (omega arith))
      ]

-- what one call reads, from the PDU that its first byte belongs to on: up to the end of the header, ..
module _ (old from middle : Reading) (bytes : List ℕ) (m : ℕ) (order : IsInOrder old) (some : 0 < length bytes)
    (next : from ≡ next_pdu old) (number : m ≡ min (8 - from.came) (length bytes))
    (header : middle ≡ with_bytes (take m bytes) from) where
  order_from : IsInOrder from
  order_from = subst IsInOrder (sym next) (next_in_order old order)

  short_from : from.came < pdu_len from.front
  short_from = short_of from (ap is_whole next ∙ next_short old)

  first_part : GoesOn from m
  first_part = record {
    most = order_from.most;
    front = order_from.front;
    within = omega (arith, pdu_len_least from.front, short_from);
    header = λ h. omega arith;
  }

  few_first : m ≤ length bytes
  few_first = omega arith

  came_middle : middle.came ≡ from.came + m
  came_middle =
      ap (λ (r : Reading). r.came) header
      ∙ ap (λ (n : ℕ). from.came + n) (in_header from bytes m 0 first_part few_first)

  order_middle : IsInOrder middle
  order_middle =
      subst IsInOrder (sym header)
      (in_order_after from (take m bytes) (on_header from bytes m 0 first_part few_first))

  by_parts : (k : ℕ) → 0 < k → read_on old (take k bytes) ≡ read_on from (take k bytes)
  by_parts k more =
      read_on_next old (take k bytes) order (omega (arith, length-take k bytes))
      ∙ ap (λ (r : Reading). read_on r (take k bytes)) (sym next)

  pub reads_header : middle.came < 8 → ReadsOn old bytes m middle
  reads_header short = record {
    within = few_first;
    some = λ h. omega (arith, came_middle);
    after = header ∙ sym (to_header from bytes m 0 first_part few_first)
        ∙ sym (by_parts m (omega (arith, came_middle)));
    not_before = λ k more before. ap is_whole (by_parts k more) ∙ not_yet from bytes k m first_part few_first before;
    to_end = λ h. absurd (omega (arith, came_middle));
  }

  -- .. and then up to that of the PDU
  module _ (n : ℕ) (new : Reading) (long : 8 ≤ middle.came)
      (rest : n ≡ min (pdu_len middle.front - middle.came) (length (drop m bytes)))
      (after : new ≡ with_bytes (take n (drop m bytes)) middle) where
    second_part : GoesOn middle n
    second_part = record {
      most = order_middle.most;
      front = order_middle.front;
      within = omega (arith, order_middle.within);
      header = λ h. long;
    }

    second_from : GoesOn (with_bytes (take m bytes) from) n
    second_from = subst (λ (r : Reading). GoesOn r n) header second_part

    few_rest : n ≤ length (drop m bytes)
    few_rest = omega arith

    some_read : 0 < m + n
    some_read =
        elim (cases_lt 0 m) [
          | inl more ↦ omega arith
          | inr all ↦
              let kept_header : pdu_len middle.front ≡ pdu_len from.front =
              ap (λ (r : Reading). pdu_len r.front) header
              ∙ header_stays from.most from.front (take m bytes) (omega (arith, order_from.front, order_from.most))
              in
              omega (arith, came_middle, short_from, length-drop m bytes)
        ]

    new_is : new ≡ read_on old (take (m + n) bytes)
    new_is =
        after ∙ sym (read_on-within middle (take n (drop m bytes))
        (fewer middle (length (take n (drop m bytes))) n (omega (arith, length-take n (drop m bytes))) second_part))
        ∙ ap (λ (r : Reading). read_on r (take n (drop m bytes))) header
        ∙ sym (in_both from bytes m 0 first_part few_first n)
        ∙ sym (by_parts (m + n) some_read)

    whole_then : m + n < length bytes → is_whole new ≡ true
    whole_then h =
        let all : n ≡ pdu_len middle.front - middle.came = omega (arith, length-drop m bytes) in
        let came : new.came ≡ middle.came + n =
        ap (λ (r : Reading). r.came) after
        ∙ ap (λ (k : ℕ). middle.came + k) (length-take-le n (drop m bytes) few_rest)
        in
        let len : pdu_len new.front ≡ pdu_len middle.front =
        ap (λ (r : Reading). pdu_len r.front) after
        ∙ header_stays middle.most middle.front (take n (drop m bytes)) (omega (arith, order_middle.front, order_middle.most))
        in
        le-leb (pdu_len new.front) new.came (omega (arith, order_middle.within))

    pub reads_both : ReadsOn old bytes (m + n) new
    reads_both = record {
      within = omega (arith, length-drop m bytes);
      some = λ h. some_read;
      after = new_is;
      not_before = λ k more before. ap is_whole (by_parts k more)
          ∙ on_the_way from bytes m n first_part few_first second_from few_rest k before;
      to_end = whole_then;
    }

-- both at once, where the header is there
module _ (old from new : Reading) (bytes : List ℕ) (count : ℕ) (order : IsInOrder old) (there : 8 ≤ length bytes)
    (next : from ≡ next_pdu old) (empty : from.came ≡ 0) (number : count ≡ min (pdu_len bytes) (length bytes))
    (after : new ≡ with_bytes (take count bytes) from) where
  some_there : 0 < length bytes
  some_there = omega (arith, there)

  header_number : 8 ≡ min (8 - from.came) (length bytes)
  header_number = omega (arith, empty, there)

  order_first : IsInOrder from
  order_first = subst IsInOrder (sym next) (next_in_order old order)

  first_len : length (take 8 bytes) ≡ 8
  first_len = length-take-le 8 bytes there

  nothing_kept : length from.front ≡ 0
  nothing_kept = omega (arith, order_first.front, empty)

  len_first : pdu_len (with_bytes (take 8 bytes) from).front ≡ pdu_len bytes
  len_first =
      ap (λ (l : List ℕ). pdu_len (l ++ take (from.most - length l) (take 8 bytes))) (nothing_in from.front nothing_kept)
      ∙ (let all : from.most - 0 ≡ from.most = omega arith in ap (λ (n : ℕ). pdu_len (take n (take 8 bytes))) all)
      ∙ pdu_len-take from.most (take 8 bytes) (omega (arith, order_first.most)) (omega (arith, first_len))
      ∙ pdu_len-take 8 bytes (omega arith) there

  least_len : 8 ≤ pdu_len bytes
  least_len = pdu_len_least bytes

  as_parts : 8 + (count - 8) ≡ count
  as_parts = omega (arith, number, least_len, there)

  came_first : (with_bytes (take 8 bytes) from).came ≡ 8
  came_first = omega (arith, empty, first_len)

  rest_number : count - 8 ≡ min (pdu_len (with_bytes (take 8 bytes) from).front - (with_bytes (take 8 bytes) from).came) (length (drop 8 bytes))
  rest_number = omega (arith, number, len_first, came_first, length-drop 8 bytes, least_len, there)

  new_first : new ≡ with_bytes (take (count - 8) (drop 8 bytes)) (with_bytes (take 8 bytes) from)
  new_first =
      after ∙ ap (λ (n : ℕ). with_bytes (take n bytes) from) (sym as_parts)
      ∙ ap (λ (l : List ℕ). with_bytes l from) (take-add 8 (count - 8) bytes)
      ∙ sym (with_bytes-append (take 8 bytes) (take (count - 8) (drop 8 bytes)) from)

  pub reads_at_once : ReadsOn old bytes count new
  reads_at_once =
      subst (λ (n : ℕ). ReadsOn old bytes n new) as_parts
      (reads_both old from (with_bytes (take 8 bytes) from) bytes 8 order some_there next header_number refl (count - 8) new
      (omega (arith, came_first)) rest_number new_first)

-- A byte more of the stream.
module _ (r : Reading) (stream : List ℕ) (b : ℕ) (wide : 24 ≤ r.most) (read : HasRead r stream) where
  part : List ℕ
  part = read.under_way

  whole_part : is_whole r ≡ true → IsPdu read.under_way
  whole_part sure =
      let reached : pdu_len r.front ≤ r.came = leb-true (pdu_len r.front) r.came sure in
      let long : 8 ≤ length read.under_way = omega (arith, pdu_len_least r.front, read.came) in
      let len : pdu_len r.front ≡ pdu_len read.under_way =
      ap pdu_len read.front ∙ pdu_len-take r.most read.under_way (omega arith) long
      in
      omega (arith, read.came, read.within)

  within_part : is_whole r ≡ false → length (read.under_way ++ b ∷ []) ≤ pdu_len (read.under_way ++ b ∷ [])
  within_part off =
      elim (cases_lt (length read.under_way) 8) [
        | inl few ↦ omega (arith, length-append read.under_way (b ∷ []), pdu_len_least (read.under_way ++ b ∷ []))
        | inr long ↦
            let len : pdu_len r.front ≡ pdu_len read.under_way =
            ap pdu_len read.front ∙ pdu_len-take r.most read.under_way (omega arith) long
            in
            omega (arith, length-append read.under_way (b ∷ []), pdu_len-more read.under_way (b ∷ []) long, short_of r off, read.came)
      ]

  front_part : kept r.most r.front (b ∷ []) ≡ take r.most (read.under_way ++ b ∷ [])
  front_part =
      let room : r.most - length (take r.most read.under_way) ≡ r.most - length read.under_way =
      omega (arith, length-take r.most read.under_way)
      in
      ap (λ (l : List ℕ). kept r.most l (b ∷ [])) read.front
      ∙ ap (λ (n : ℕ). take r.most read.under_way ++ take n (b ∷ [])) room
      ∙ sym (take-append r.most read.under_way (b ∷ []))

  read_byte : HasRead (with_bytes (b ∷ []) (next_pdu r)) (stream ++ b ∷ [])
  read_byte =
      elim (cases_Bool (is_whole r)) [
        | inl sure ↦ rw sure (record {
          before = read.before ++ read.under_way;
          under_way = b ∷ [];
          split = ap (λ (l : List ℕ). l ++ b ∷ []) read.split;
          are_pdus = behind read.under_way read.are_pdus (whole_part sure);
          within = omega (arith, pdu_len_least (b ∷ []));
          came = refl;
          front = let all : r.most - 0 ≡ r.most = omega arith in ap (λ (n : ℕ). take n (b ∷ [])) all;
        })
        | inr off ↦ rw off (record {
          before = read.before;
          under_way = read.under_way ++ b ∷ [];
          split = sym (append_assoc read.before read.under_way (b ∷ []))
              ∙ ap (λ (l : List ℕ). l ++ b ∷ []) read.split;
          are_pdus = read.are_pdus;
          within = within_part off;
          came = omega (arith, read.came, length-append read.under_way (b ∷ []));
          front = front_part;
        })
      ]

pub most-next : (r : Reading) → (next_pdu r).most ≡ r.most
most-next r =
    elim (cases_Bool (is_whole r)) [
      | inl sure ↦ rw sure refl
      | inr off ↦ rw off refl
    ]

pub has_read_on : (r : Reading) (bytes stream : List ℕ) → 24 ≤ r.most → HasRead r stream
    → HasRead (read_on r bytes) (stream ++ bytes)
has_read_on r [] stream wide read = subst (HasRead r) (sym (append-nil stream)) read
has_read_on r (b ∷ bytes) stream wide read =
    subst (HasRead (read_on r (b ∷ bytes))) (append_assoc stream (b ∷ []) bytes)
    (has_read_on (with_bytes (b ∷ []) (next_pdu r)) bytes (stream ++ b ∷ []) (omega (arith, most-next r))
    (read_byte r stream b wide read))

pub nothing_read : (most : ℕ) → HasRead (at_first most) []
nothing_read most = record {
  before = [];
  under_way = [];
  split = refl;
  are_pdus = none;
  within = omega arith;
  came = refl;
  front = sym (take-nil most);
}

pub next_behind : (r : Reading) → is_whole r ≡ true → at_first r.most ≡ next_pdu r
next_behind r sure = rw sure refl

pub next_within : (r : Reading) → is_whole r ≡ false → r ≡ next_pdu r
next_within r off = rw off refl

-- what a slice from a place on has
pub from_place : (bytes : List ℕ) (at : ℕ) → take (length bytes - at) (drop at bytes) ≡ drop at bytes
from_place bytes at =
    ap (λ (n : ℕ). take n (drop at bytes)) (sym (length-drop at bytes)) ∙ take-length (drop at bytes)

-- One whole PDU, and no byte more.
module _ (most : ℕ) (pdu : List ℕ) (wide : 24 ≤ most) (is : IsPdu pdu) where
  pub has_header : 8 ≤ length pdu
  has_header = omega (arith, is, pdu_len_least pdu)

  to_its_header : GoesOn (at_first most) 8
  to_its_header = record {
    most = wide;
    front = omega arith;
    within = omega (arith, pdu_len_least []);
    header = λ h. absurd (omega arith);
  }

  all_kept : (bytes : List ℕ) → 8 ≤ length bytes → pdu_len (kept most [] bytes) ≡ pdu_len bytes
  all_kept bytes long = pdu_len-take (most - 0) bytes (omega arith) long

  header_len : length (take 8 pdu) ≡ 8
  header_len = length-take-le 8 pdu has_header

  to_its_end : GoesOn (with_bytes (take 8 pdu) (at_first most)) (length pdu - 8)
  to_its_end = record {
    most = wide;
    front = (in_order_after (at_first most) (take 8 pdu) (on_header (at_first most) pdu 8 0 to_its_header has_header)).front;
    within =
        let len : pdu_len (with_bytes (take 8 pdu) (at_first most)).front ≡ pdu_len pdu =
        all_kept (take 8 pdu) (omega (arith, header_len)) ∙ pdu_len-take 8 pdu (omega arith) has_header
        in
        omega (arith, header_len, is, has_header, len);
    header = λ h. omega (arith, header_len);
  }

  rest_len : length pdu - 8 ≤ length (drop 8 pdu)
  rest_len = omega (arith, length-drop 8 pdu)

  in_two : take (8 + (length pdu - 8)) pdu ≡ pdu
  in_two =
      let all : 8 + (length pdu - 8) ≡ length pdu = omega (arith, has_header) in
      ap (λ (n : ℕ). take n pdu) all ∙ take-length pdu

  pub read_whole : read_on (at_first most) pdu ≡ with_bytes pdu (at_first most)
  read_whole =
      ap (read_on (at_first most)) (sym in_two)
      ∙ in_both (at_first most) pdu 8 0 to_its_header has_header (length pdu - 8)
      ∙ ap (read_on (with_bytes (take 8 pdu) (at_first most))) (from_place pdu 8)
      ∙ read_on-within (with_bytes (take 8 pdu) (at_first most)) (drop 8 pdu)
      (fewer (with_bytes (take 8 pdu) (at_first most)) (length (drop 8 pdu)) (length pdu - 8) (omega (arith, length-drop 8 pdu)) to_its_end)
      ∙ with_bytes-append (take 8 pdu) (drop 8 pdu) (at_first most)
      ∙ ap (λ (l : List ℕ). with_bytes l (at_first most)) (take-append-drop 8 pdu)

  pub short_in_pdu : (k : ℕ) → k < length pdu → is_whole (read_on (at_first most) (take k pdu)) ≡ false
  short_in_pdu k before =
      on_the_way (at_first most) pdu 8 (length pdu - 8) to_its_header has_header to_its_end rest_len k (omega arith)

  pub whole_pdu : is_whole (with_bytes pdu (at_first most)) ≡ true
  whole_pdu =
      le-leb (pdu_len (kept most [] pdu)) (0 + length pdu) (omega (arith, all_kept pdu has_header, is))

  pub front_of_pdu : kept most [] pdu ≡ take most pdu
  front_of_pdu = let all : most - 0 ≡ most = omega arith in ap (λ (n : ℕ). take n pdu) all

pub first_is_next : (most : ℕ) → next_pdu (at_first most) ≡ at_first most
first_is_next most = rw (not_whole (at_first most) (omega (arith, pdu_len_least []))) refl

-- the next byte decides where it is read on from
pub read_on_same : (r s : Reading) (bytes : List ℕ) → 0 < length bytes → next_pdu r ≡ next_pdu s → read_on r bytes ≡ read_on s bytes
read_on_same r s [] some same = absurd (omega arith)
read_on_same r s (b ∷ bytes) some same = ap (λ (p : Reading). read_on (with_bytes (b ∷ []) p) bytes) same
