-- How an output is cut into its PDUs.
use Rattle.std.proofs.Common.{◌≡◌, ℕ, zero, suc, ◌+◌, ◌<◌, ◌≤◌, ◌&&◌, Bool, true, false, List, [], ◌∷◌, ◌++◌, length, take, drop, length-drop, refl, sym, ap, ◌∙◌, ◌⊎◌, inl, inr, arith, take-append-drop, Option, append_assoc, append-nil, subst}
use Rattle.std.specs.Prelude.{All, flat_map, nat_le, nat_lt, if◌then◌else◌}
use Rattle.std.proofs.lemmas.Bool.Decides.{nat_tests}
use Rattle.std.proofs.lemmas.List.{length-take-le, take_all}
use Rattle.std.proofs.lemmas.List.Elements.{All-cons, All-nil}
use Rattle.std.specs.Io.KnownBytes.{Appends}
use Rattle.nvt_fields.specs.Field.{field_at}
use Rattle.edit_lines.specs.Printed.{AreAllOf, first_pdus, output_lines, pdu_length, pdu_line, pdus_of}
use Rattle.edit_lines.specs.Writing.{AppendsFront}
use Rattle.edit_lines.proofs.Fronts.{front_behind, front_left}

-- what is so of a length that is less than a header, of a PLEN that is a length, and of one that is none
by_cases : (P : ℕ → Type 0) (len plen : ℕ) → P len → (8 ≤ plen → plen ≤ len → P plen)
    → P (if nat_lt len 8 then len else if nat_le 8 plen && nat_le plen len then plen else len)
by_cases P len plen whole cut = by (nat_lt len 8) (nat_le 8 plen) (nat_le plen len) (λ h. grind (arith, nat_tests)) (λ h. grind (arith, nat_tests)) where
  by : (short low high : Bool) → (low ≡ true → 8 ≤ plen) → (high ≡ true → plen ≤ len)
      → P (if short then len else if low && high then plen else len)
  by true low high is_low is_high = whole
  by false true true is_low is_high = cut (is_low refl) (is_high refl)
  by false true false is_low is_high = whole
  by false false high is_low is_high = whole

pub length_within : (output : List ℕ) → 0 < length output → (0 < pdu_length output) × (pdu_length output ≤ length output)
length_within output some =
    by_cases (λ n. (0 < n) × (n ≤ length output)) (length output) (field_at 4 4 output) (some, omega arith) (λ low high. (omega arith, high))

-- the front is all of an output, or as long as its PLEN says
which_front : (output : List ℕ) → (pdu_length output ≡ length output)
    ⊎ ((8 ≤ pdu_length output) × (pdu_length output ≤ length output) × (field_at 4 4 output ≡ pdu_length output))
which_front output =
    by_cases (λ n. (n ≡ length output) ⊎ ((8 ≤ n) × (n ≤ length output) × (field_at 4 4 output ≡ n))) (length output) (field_at 4 4 output)
    (inl refl) (λ low high. inr (low, high, refl))

-- what follows the common header is no part of its PLEN
plen-append : (s t : List ℕ) → 8 ≤ length s → field_at 4 4 (s ++ t) ≡ field_at 4 4 s
unfolding field_at
plen-append [] t long = absurd (omega arith)
plen-append (a ∷ []) t long = absurd (omega arith)
plen-append (a ∷ b ∷ []) t long = absurd (omega arith)
plen-append (a ∷ b ∷ c ∷ []) t long = absurd (omega arith)
plen-append (a ∷ b ∷ c ∷ d ∷ []) t long = absurd (omega arith)
plen-append (a ∷ b ∷ c ∷ d ∷ e ∷ []) t long = absurd (omega arith)
plen-append (a ∷ b ∷ c ∷ d ∷ e ∷ f ∷ []) t long = absurd (omega arith)
plen-append (a ∷ b ∷ c ∷ d ∷ e ∷ f ∷ g ∷ []) t long = absurd (omega arith)
plen-append (a ∷ b ∷ c ∷ d ∷ e ∷ f ∷ g ∷ h ∷ rest) t long = refl

plen-take : (n : ℕ) (s : List ℕ) → 8 ≤ n → n ≤ length s → field_at 4 4 (take n s) ≡ field_at 4 4 s
plen-take n s low high =
    sym (plen-append (take n s) (drop n s) (omega (arith, length-take-le n s high)))
    ∙ ap (field_at 4 4) (take-append-drop n s)

-- the PDU at the front is as long as it says by itself
front_sized : (output : List ℕ) → length (take (pdu_length output) output) ≡ pdu_length (take (pdu_length output) output)
front_sized output =
    elim (which_front output) [
      | inl all ↦
          let same : take (pdu_length output) output ≡ output = take_all (pdu_length output) output (omega arith) in
          rw same (sym all)
      | inr cut ↦
          let n = pdu_length output in
          let pdu = take n output in
          let long : length pdu ≡ n = length-take-le n output cut.1 in
          let says : field_at 4 4 pdu ≡ n = plen-take n output cut.0 cut.1 ∙ cut.2 in
          let own : pdu_length pdu ≡ n = rw (long, says) (by_cases (λ m. m ≡ n) n n refl (λ low high. refl)) in
          long ∙ sym own
    ]

-- more PDUs than bytes are none
same_pdus : (n m : ℕ) (output : List ℕ) → length output ≤ n → length output ≤ m → first_pdus n output ≡ first_pdus m output
same_pdus zero zero output low high = refl
same_pdus zero (suc m) [] low high = refl
same_pdus zero (suc m) (b ∷ bytes) low high = absurd (omega arith)
same_pdus (suc n) zero [] low high = refl
same_pdus (suc n) zero (b ∷ bytes) low high = absurd (omega arith)
same_pdus (suc n) (suc m) [] low high = refl
same_pdus (suc n) (suc m) (b ∷ bytes) low high =
    let len = pdu_length (b ∷ bytes) in
    let within = length_within (b ∷ bytes) (omega arith) in
    let shorter : length (drop len (b ∷ bytes)) + len ≡ length (b ∷ bytes) = omega (arith, length-drop len (b ∷ bytes), within.1) in
    ap (λ pdus. take len (b ∷ bytes) ∷ pdus)
    (same_pdus n m (drop len (b ∷ bytes)) (omega (arith, within.0, shorter)) (omega (arith, within.0, shorter)))

-- the first PDU, and then those of what follows it
pub pdus_of-front : (output : List ℕ) → 0 < length output
    → pdus_of output ≡ take (pdu_length output) output ∷ pdus_of (drop (pdu_length output) output)
unfolding pdus_of
pdus_of-front [] some = absurd (omega arith)
pdus_of-front (b ∷ bytes) some =
    let len = pdu_length (b ∷ bytes) in
    let within = length_within (b ∷ bytes) some in
    let shorter : length (drop len (b ∷ bytes)) + len ≡ length (b ∷ bytes) = omega (arith, length-drop len (b ∷ bytes), within.1) in
    ap (λ pdus. take len (b ∷ bytes) ∷ pdus)
    (same_pdus (length bytes) (length (drop len (b ∷ bytes))) (drop len (b ∷ bytes)) (omega (arith, within.0, shorter)) (omega arith))

pub pdus_of-nil : pdus_of [] ≡ []
unfolding pdus_of
pdus_of-nil = refl

first_joined : (n : ℕ) (output : List ℕ) → length output ≤ n → flat_map (λ pdu. pdu) (first_pdus n output) ≡ output
first_joined zero [] few = refl
first_joined zero (b ∷ bytes) few = absurd (omega arith)
first_joined (suc n) [] few = refl
first_joined (suc n) (b ∷ bytes) few =
    let len = pdu_length (b ∷ bytes) in
    let within = length_within (b ∷ bytes) (omega arith) in
    let shorter : length (drop len (b ∷ bytes)) + len ≡ length (b ∷ bytes) = omega (arith, length-drop len (b ∷ bytes), within.1) in
    ap (λ (rest : List ℕ). take len (b ∷ bytes) ++ rest) (first_joined n (drop len (b ∷ bytes)) (omega (arith, within.0, shorter)))
    ∙ take-append-drop len (b ∷ bytes)

first_sized : (n : ℕ) (output : List ℕ) → All (λ pdu. length pdu ≡ pdu_length pdu) (first_pdus n output)
first_sized zero output = All-nil (λ pdu. length pdu ≡ pdu_length pdu)
first_sized (suc n) [] = All-nil (λ pdu. length pdu ≡ pdu_length pdu)
first_sized (suc n) (b ∷ bytes) =
    let len = pdu_length (b ∷ bytes) in
    All-cons (λ pdu. length pdu ≡ pdu_length pdu) (take len (b ∷ bytes)) (first_pdus n (drop len (b ∷ bytes)))
    (front_sized (b ∷ bytes)) (first_sized n (drop len (b ∷ bytes)))

-- an output is cut into all of itself
pub all_of : (output : List ℕ) → AreAllOf output (pdus_of output)
unfolding pdus_of
all_of output = record {
  joined = first_joined (length output) output (omega arith);
  sized = first_sized (length output) output;
}

-- the line of the first PDU, and then those of what follows it
pub output_lines-front : (k : ℕ) (output : List ℕ) → 0 < length output
    → output_lines k output ≡ pdu_line k (take (pdu_length output) output) ++ output_lines k (drop (pdu_length output) output)
output_lines-front k output some = ap (flat_map (pdu_line k)) (pdus_of-front output some)

pub output_lines-nil : (k : ℕ) → output_lines k [] ≡ []
output_lines-nil k = ap (flat_map (pdu_line k)) pdus_of-nil

-- what was printed before, and the line of the first PDU of the rest, come before the lines of what follows it
pub printed_more : (k : ℕ) (all rest pdu after done : List ℕ) → 0 < length rest → pdu ≡ take (pdu_length rest) rest
    → after ≡ drop (pdu_length rest) rest → all ≡ done ++ output_lines k rest → all ≡ (done ++ pdu_line k pdu) ++ output_lines k after
printed_more k all rest pdu after done some first next before =
    let front : output_lines k rest ≡ pdu_line k pdu ++ output_lines k after = rw (first, next) (output_lines-front k rest some) in
    before ∙ ap (λ (lines : List ℕ). done ++ lines) front ∙ sym (append_assoc done (pdu_line k pdu) (output_lines k after))

-- nothing is left to print
pub printed_all : (k : ℕ) (all rest done : List ℕ) (old new : Option (List ℕ)) → length rest ≡ 0 → all ≡ done ++ output_lines k rest
    → Appends old new done → Appends old new all
printed_all k all [] done old new none before took =
    subst (Appends old new) (sym (before ∙ ap (λ (lines : List ℕ). done ++ lines) (output_lines-nil k) ∙ append-nil done)) took
printed_all k all (b ∷ bytes) done old new none before took = absurd (omega arith)

-- of the line of the first PDU of the rest a beginning was printed
pub printed_part : (k : ℕ) (all rest pdu after done : List ℕ) (old mid new : Option (List ℕ)) → 0 < length rest → pdu ≡ take (pdu_length rest) rest
    → after ≡ drop (pdu_length rest) rest → all ≡ done ++ output_lines k rest → Appends old mid done
    → AppendsFront mid new (pdu_line k pdu) → AppendsFront old new all
printed_part k all rest pdu after done old mid new some first next before took part =
    subst (AppendsFront old new) (sym (printed_more k all rest pdu after done some first next before))
    (front_left old new (done ++ pdu_line k pdu) (output_lines k after) (front_behind old mid new done (pdu_line k pdu) took part))
