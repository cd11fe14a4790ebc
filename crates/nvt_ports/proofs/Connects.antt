-- What a watch has seen agrees with what the bytes show.
use Rattle.std.proofs.Common.{length-append, ◌≡◌, ℕ, ◌<◌, ◌≤◌, ◌==◌, true, false, inl, inr, List, [], ◌∷◌, ◌++◌, length, drop, set, get_or, replicate, min, refl, sym, ap, subst, ◌∙◌, nat_le, arith, lit<, get_or-set_same, get_or-set_other}
use Rattle.std.proofs.lemmas.Bool.{both_ways, cases_eq, cases_lt, cases_Bool, eq-eqb, eqb-true, ne_eqb, leb-true, le-leb, and_parts, and_from}
use Rattle.std.proofs.lemmas.List.{get_or-replicate, length-replicate, get_or_append_left, get_or_push, get_or_past, length_push, length-set, set_past, drop-append-le, drop_all}
use Rattle.nvt_ports.specs.declared.connect_watch.ConnectWatch.{ConnectWatch}
use Rattle.nvt_ports.specs.Connects.{BeginsWithPdu, ShowsConnect, at_first, later, is_success, plen_of}
use Rattle.nvt_ports.specs.Watching.{HasSeen, connected, within, behind, IsWithin, behind_pdu, is_at_end, watched, with_byte}

same_plen : (a b : List ℕ) → ((i : ℕ) → i < 8 → get_or a i 0 ≡ get_or b i 0) → plen_of a ≡ plen_of b
unfolding plen_of
same_plen a b same = cc (same 4 (lit< tt), same 5 (lit< tt), same 6 (lit< tt), same 7 (lit< tt))

plen_bound : (front : List ℕ) → ((i : ℕ) → get_or front i 0 < 256) → plen_of front ≤ 4294967295
unfolding plen_of
plen_bound front bytes = omega (arith, bytes 4, bytes 5, bytes 6, bytes 7)

-- of a PDU of another length the other bytes do not matter
same_success : (a b : List ℕ) → plen_of a ≡ plen_of b
    → (plen_of b ≡ 24 → (i : ℕ) → i < 24 → get_or a i 0 ≡ get_or b i 0) → is_success a ≡ is_success b
same_success a b plen same =
    elim (cases_eq (plen_of b) 24) [
      | inl is ↦ cc (plen, same is 0 (lit< tt), same is 22 (lit< tt), same is 23 (lit< tt))
      | inr off ↦ rw (plen, ne_eqb (plen_of b) 24 off) refl
    ]

plen-more : (given more : List ℕ) → 8 ≤ length given → plen_of (given ++ more) ≡ plen_of given
plen-more given more long =
    same_plen (given ++ more) given (λ i h. get_or_append_left given more 0 i (omega arith))

begins-more : (given more : List ℕ) → BeginsWithPdu given → BeginsWithPdu (given ++ more)
begins-more given more begins =
    let long : 8 ≤ length given = omega arith in
    let plen : plen_of (given ++ more) ≡ plen_of given = plen-more given more long in
    record { has_header = omega arith; is_whole = simp length-append (omega arith) }

success-more : (given more : List ℕ) → BeginsWithPdu given → is_success (given ++ more) ≡ is_success given
success-more given more begins =
    same_success (given ++ more) given (plen-more given more (omega arith))
    (λ is i h. get_or_append_left given more 0 i (omega arith))

rest-more : (given more : List ℕ) → BeginsWithPdu given
    → drop (plen_of given) given ++ more ≡ drop (plen_of (given ++ more)) (given ++ more)
rest-more given more begins =
    sym (ap (λ (n : ℕ). drop n (given ++ more)) (plen-more given more (omega arith))
    ∙ drop-append-le (plen_of given) given more begins.is_whole)

shows-more : {given : List ℕ} (more : List ℕ) → ShowsConnect given → ShowsConnect (given ++ more)
shows-more {given} more (at_first begins success) =
    at_first (begins-more given more begins) (success-more given more begins ∙ success)
shows-more {given} more (later begins rest) =
    later (begins-more given more begins) (subst ShowsConnect (rest-more given more begins) (shows-more more rest))

begins_so : {given : List ℕ} → ShowsConnect given → BeginsWithPdu given
begins_so (at_first begins success) = begins
begins_so (later begins rest) = begins

shows_behind : {given : List ℕ} → ShowsConnect given → is_success given ≡ false → ShowsConnect (drop (plen_of given) given)
shows_behind (at_first begins success) none = absurd (both_ways _ none success)
shows_behind (later begins rest) none = rest

pub shown : {w : ConnectWatch} {given : List ℕ} → HasSeen w given → w.is_connected ≡ true → ShowsConnect given
shown (connected is shows) sure = shows
shown (within off part inside) sure = absurd (both_ways _ off sure)
shown (behind begins none rest) sure = later begins (shown rest sure)

pub noticed : {w : ConnectWatch} {given : List ℕ} → HasSeen w given → ShowsConnect given → w.is_connected ≡ true
noticed (connected is shows) shows' = is
noticed (within off part inside) shows' = absurd (part (begins_so shows'))
noticed (behind begins none rest) shows' = noticed rest (shows_behind shows' none)

-- once a Connect was shown, no byte more matters
pub stays_connected : {w : ConnectWatch} (given more : List ℕ) → w.is_connected ≡ true → HasSeen w given
    → HasSeen w (given ++ more)
stays_connected given more sure seen = connected sure (shows-more more (shown seen sure))

set_below : (front : List ℕ) (place b : ℕ) → b < 256 → ((i : ℕ) → get_or front i 0 < 256)
    → (i : ℕ) → get_or (set front place b) i 0 < 256
set_below front place b byte bytes i =
    elim (cases_eq i place) [
      | inl is ↦ elim (cases_lt place (length front)) [
        | inl lt ↦ rw (is, get_or-set_same front place b 0 lt) byte
        | inr past ↦ rw (set_past front place b past) (bytes i)
      ]
      | inr off ↦ rw (get_or-set_other front place i b 0 off) (bytes i)
    ]

module _ (w : ConnectWatch) (given : List ℕ) (b : ℕ) (byte : b < 256) (inside : IsWithin w given) where
  front_with_byte : (i : ℕ) → i < 24 → i < length (given ++ b ∷ [])
      → get_or (set w.front w.place b) i 0 ≡ get_or (given ++ b ∷ []) i 0
  front_with_byte i small short =
      elim (cases_eq i (length given)) [
        | inl is ↦
            let at : w.place ≡ i = omega (arith, inside.place) in
            rw at (get_or-set_same w.front i b 0 (omega (arith, inside.front_len)) ∙ sym (get_or_push given b 0 i (sym is)))
        | inr off ↦
            let lt : i < length given = omega (arith, length_push given b) in
            get_or-set_other w.front w.place i b 0 (omega (arith, inside.place))
            ∙ inside.front i small lt ∙ sym (get_or_append_left given (b ∷ []) 0 i lt)
      ]

  within_with_byte : IsWithin (with_byte b w) (given ++ b ∷ [])
  within_with_byte = record {
    place = omega (arith, length_push given b, inside.place);
    front_len = length-set w.front w.place b ∙ inside.front_len;
    front = front_with_byte;
    are_bytes = set_below w.front w.place b byte inside.are_bytes;
  }

fresh : (w : ConnectWatch) (given : List ℕ) → IsWithin w given → IsWithin (behind_pdu w) []
fresh w given inside = record {
  place = refl;
  front_len = inside.front_len;
  front = λ i small none. absurd (omega arith);
  are_bytes = inside.are_bytes;
}

begins_not : ¬ BeginsWithPdu []
begins_not begins = absurd (omega (arith, begins.has_header, begins.is_whole))

-- a PDU that was not whole before its last byte ends with it
module _ (w : ConnectWatch) (given : List ℕ) (b : ℕ) (part : ¬ BeginsWithPdu given) (inside : IsWithin w (given ++ b ∷ [])) where
  plen_seen : 8 ≤ length (given ++ b ∷ []) → plen_of w.front ≡ plen_of (given ++ b ∷ [])
  plen_seen long = same_plen w.front (given ++ b ∷ []) (λ i h. inside.front i (omega arith) (omega arith))

  not_before : 8 ≤ plen_of (given ++ b ∷ []) → length given < plen_of (given ++ b ∷ [])
  not_before header =
      elim (cases_lt (length given) (plen_of (given ++ b ∷ []))) [
        | inl lt ↦ lt
        | inr le ↦
            let plen : plen_of (given ++ b ∷ []) ≡ plen_of given = plen-more given (b ∷ []) (omega arith) in
            absurd (part (record { has_header = omega arith; is_whole = omega arith }))
      ]

  at_end : is_at_end w ≡ true → w.is_connected ≡ false → HasSeen (behind_pdu w) (given ++ b ∷ [])
  at_end ends off =
      let parts : (nat_le 8 w.place ≡ true) × ((w.place == plen_of w.front) ≡ true) =
      and_parts (nat_le 8 w.place) (w.place == plen_of w.front) ends in
      let long : 8 ≤ w.place = leb-true 8 w.place parts.0 in
      let all : w.place ≡ plen_of w.front = eqb-true w.place (plen_of w.front) parts.1 in
      let place : w.place ≡ min (length (given ++ b ∷ [])) 4294967295 = inside.place in
      let plen : plen_of w.front ≡ plen_of (given ++ b ∷ []) = plen_seen (omega arith) in
      let begins : BeginsWithPdu (given ++ b ∷ []) = record { has_header = omega arith; is_whole = omega arith } in
      let last : length given < plen_of (given ++ b ∷ []) = not_before begins.has_header in
      let same : is_success w.front ≡ is_success (given ++ b ∷ []) =
      same_success w.front (given ++ b ∷ []) plen (λ is i h. inside.front i h (omega arith)) in
      elim (cases_Bool (is_success w.front)) [
        | inl sure ↦ connected sure (at_first begins (sym same ∙ sure))
        | inr none ↦ behind begins (sym same ∙ none)
            (subst (HasSeen (behind_pdu w))
            (sym (drop_all (plen_of (given ++ b ∷ [])) (given ++ b ∷ []) (omega (arith, length_push given b))))
            (within none begins_not (fresh w (given ++ b ∷ []) inside)))
      ]

  before_end : is_at_end w ≡ false → ¬ BeginsWithPdu (given ++ b ∷ [])
  before_end off begins =
      let place : w.place ≡ min (length (given ++ b ∷ [])) 4294967295 = inside.place in
      let plen : plen_of w.front ≡ plen_of (given ++ b ∷ []) = plen_seen (omega arith) in
      let bound : plen_of w.front ≤ 4294967295 = plen_bound w.front inside.are_bytes in
      let last : length given < plen_of (given ++ b ∷ []) = not_before begins.has_header in
      let all : w.place ≡ plen_of w.front = omega (arith, length_push given b) in
      both_ways _ off (and_from _ _ (le-leb 8 w.place (omega arith)) (eq-eqb w.place (plen_of w.front) all))

  watched_within : w.is_connected ≡ false → HasSeen (watched w) (given ++ b ∷ [])
  watched_within off =
      elim (cases_Bool (is_at_end w)) [
        | inl ends ↦ rw ends (at_end ends off)
        | inr on ↦ rw on (within off (before_end on) inside)
      ]

zeros_below : (n i : ℕ) → get_or (replicate n 0) i 0 < 256
zeros_below n i =
    elim (cases_lt i n) [
      | inl lt ↦ rw (get_or-replicate {A = ℕ} n i 0 0 lt) (lit< tt)
      | inr past ↦ rw (get_or_past {X = ℕ} (replicate n 0) i 0 (omega (arith, length-replicate {A = ℕ} n 0))) (lit< tt)
    ]

pub at_the_start : HasSeen (record { front = replicate 24 0; place = 0; is_connected = false }) []
at_the_start = within refl begins_not (record {
  place = refl;
  front_len = refl;
  front = λ i small none. absurd (omega arith);
  are_bytes = zeros_below 24;
})

pub stepped : {w : ConnectWatch} {given : List ℕ} (b : ℕ) → b < 256 → w.is_connected ≡ false → HasSeen w given
    → HasSeen (watched (with_byte b w)) (given ++ b ∷ [])
stepped b byte off (connected sure shows) = absurd (both_ways _ off sure)
stepped {w} {given} b byte off (within off' part inside) =
    watched_within (with_byte b w) given b part (within_with_byte w given b byte inside) off
stepped {w} {given} b byte off (behind begins none rest) =
    behind (begins-more given (b ∷ []) begins) (success-more given (b ∷ []) begins ∙ none)
    (subst (HasSeen (watched (with_byte b w))) (rest-more given (b ∷ []) begins) (stepped b byte off rest))
