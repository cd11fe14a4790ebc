-- A list that is written is read back, and one that overflowed is told from it.
use Rattle.std.proofs.Common.{◌≡◌, ℕ, suc, ◌+◌, ◌-◌, ◌*◌, ◌/◌, ◌<◌, ◌≤◌, ◌^◌, ◌==◌, ◌&&◌, nat_le, true, false, if◌then◌else◌, List, [], ◌∷◌, ◌++◌, All, length, drop, replicate, refl, sym, ap, ◌∙◌, inl, inr, arith, append_assoc, length-append}
use Rattle.std.specs.Int.{w32, to_le_bytes}
use Rattle.std.specs.List.{before_first, flat_map}
use Rattle.std.proofs.lemmas.Bool.{and_left, and_right, cases_lt}
use Rattle.std.proofs.lemmas.Bool.Decides.{nat_tests}
use Rattle.std.proofs.lemmas.List.{drop-drop, get_or-replicate, length-replicate}
use Rattle.std.proofs.lemmas.List.Concat.{flat_map-cons}
use Rattle.std.proofs.lemmas.List.Elements.{All-head, All-tail}
use Rattle.std.proofs.Math.Seq.{drop-append_seam}
use Rattle.byteorder.specs.Numbers.{little_number-reads_back}
use Rattle.nvt_fields.specs.Field.{field_at}
use Rattle.host_pages.specs.Laws.{IsNsid, ListsAreReadBack, OverflowsAreTold, begins_with_all, list_of, overflow_of}
use Rattle.host_pages.specs.NsList.{all_namespaces, is_overflowed, is_zero, listed_from}
use Rattle.host_pages.specs.Numbers.{number_at, numbers_from}
use Rattle.host_pages.proofs.GroupLists.{map-behind}
use Rattle.host_pages.proofs.Lists.{listed_from-more, listed_from-none, listed_from-zero}

-- the numbers behind the first are those of the bytes behind it
number_in : List ℕ → ℕ
number_in bytes = number_at bytes 0

number_at-behind : (front rest : List ℕ) (n : ℕ) → length front ≡ 4 → number_at (front ++ rest) (suc n) ≡ number_at rest n
unfolding field_at number_in
number_at-behind front rest n four =
    let place : suc n * 4 ≡ 4 + n * 4 = omega arith in
    let behind : drop 4 (front ++ rest) ≡ rest = ap (λ k. drop k (front ++ rest)) (sym four) ∙ drop-append_seam front rest in
    ap (λ k. number_in (drop k (front ++ rest))) place
    ∙ ap number_in (sym (drop-drop (n * 4) 4 (front ++ rest)))
    ∙ ap (λ bytes. number_in (drop (n * 4) bytes)) behind

listed_from-behind : (front rest : List ℕ) (count : ℕ) → length front ≡ 4 → listed_from (front ++ rest) 1 count ≡ listed_from rest 0 count
unfolding listed_from numbers_from
listed_from-behind front rest count four =
    ap (before_first is_zero) (map-behind (number_at (front ++ rest)) (number_at rest) (λ n. number_at-behind front rest n four) 0 count)

-- all whole entries before the first 0, whatever the first is
abbrev listed : List ℕ → List ℕ
listed bytes = listed_from bytes 0 (length bytes / 4)

first_number : (nsid : ℕ) (rest : List ℕ) → nsid < 2 ^ 32 → number_at (to_le_bytes w32 nsid ++ rest) 0 ≡ nsid
unfolding field_at
first_number nsid rest within = little_number-reads_back 4 nsid rest within

zero_number : (zeros : ℕ) → 4 ≤ zeros → number_at (replicate zeros 0) 0 ≡ 0
unfolding field_at
zero_number zeros some =
    let a = get_or-replicate {A = ℕ} zeros 0 0 0 (omega (arith, some)) in
    let b = get_or-replicate {A = ℕ} zeros 1 0 0 (omega (arith, some)) in
    let c = get_or-replicate {A = ℕ} zeros 2 0 0 (omega (arith, some)) in
    let d = get_or-replicate {A = ℕ} zeros 3 0 0 (omega (arith, some)) in
    omega (arith, a, b, c, d)

-- zeros have none
zeros_listed : (zeros : ℕ) → listed (replicate zeros 0) ≡ []
zeros_listed zeros =
    let len = length-replicate {A = ℕ} zeros 0 in
    elim (cases_lt 3 zeros) [
      | inl some ↦ listed_from-zero (replicate zeros 0) 0 (length (replicate zeros 0) / 4) (omega (arith, len)) (zero_number zeros (omega (arith, some)))
      | inr few ↦ let none : length (replicate zeros 0) / 4 ≡ 0 = omega (arith, len, few) in ap (listed_from (replicate zeros 0) 0) none ∙ listed_from-none (replicate zeros 0) 0
    ]

-- one identifier in front
one_more : (nsid : ℕ) (rest : List ℕ) → 0 < nsid → nsid < 2 ^ 32 → listed (to_le_bytes w32 nsid ++ rest) ≡ nsid ∷ listed rest
one_more nsid rest some within =
    let front = to_le_bytes w32 nsid in
    let bytes = front ++ rest in
    let len : length bytes ≡ 4 + length rest = length-append front rest in
    let count : length bytes / 4 ≡ 1 + length rest / 4 = omega (arith, len) in
    let fewer : length bytes / 4 - 1 ≡ length rest / 4 = omega (arith, count) in
    let read = first_number nsid rest within in
    listed_from-more bytes 0 (length bytes / 4) (omega (arith, count)) (λ none. absurd (omega (arith, read, none, some)))
    ∙ ap (λ n. n ∷ listed_from bytes 1 (length bytes / 4 - 1)) read
    ∙ ap (λ k. nsid ∷ listed_from bytes 1 k) fewer
    ∙ ap (λ ns. nsid ∷ ns) (listed_from-behind front rest (length rest / 4) refl)

one_in_front : (nsid : ℕ) (later : List ℕ) (zeros : ℕ) → list_of (nsid ∷ later) zeros ≡ to_le_bytes w32 nsid ++ list_of later zeros
one_in_front nsid later zeros =
    ap (λ bytes. bytes ++ replicate zeros 0) (flat_map-cons (to_le_bytes w32) nsid later)
    ∙ append_assoc (to_le_bytes w32 nsid) (flat_map (to_le_bytes w32) later) (replicate zeros 0)

all_listed : (nsids : List ℕ) (zeros : ℕ) → All IsNsid nsids → listed (list_of nsids zeros) ≡ nsids
all_listed [] zeros each = zeros_listed zeros
all_listed (nsid ∷ later) zeros each =
    let is = All-head IsNsid nsid later each in
    ap listed (one_in_front nsid later zeros) ∙ one_more nsid (list_of later zeros) is.0 is.1
    ∙ ap (λ ns. nsid ∷ ns) (all_listed later zeros (All-tail IsNsid nsid later each))

-- ---- lists that overflowed

-- the number that is written in front is the one that is looked at
front_told : (nsid : ℕ) (rest : List ℕ) → nsid < 2 ^ 32 → is_overflowed (to_le_bytes w32 nsid ++ rest) ≡ (nsid == all_namespaces)
front_told nsid rest within =
    let len : length (to_le_bytes w32 nsid ++ rest) ≡ 4 + length rest = length-append (to_le_bytes w32 nsid) rest in
    let room : nat_le 4 (length (to_le_bytes w32 nsid ++ rest)) ≡ true = grind (arith, nat_tests, len) in
    ap (λ b. b && (number_at (to_le_bytes w32 nsid ++ rest) 0 == all_namespaces)) room
    ∙ ap (λ n. n == all_namespaces) (first_number nsid rest within)

zeros_are_not : (zeros : ℕ) → is_overflowed (replicate zeros 0) ≡ false
zeros_are_not zeros =
    let bytes = replicate {A = ℕ} zeros 0 in
    let len = length-replicate {A = ℕ} zeros 0 in
    let has = nat_le 4 (length bytes) in
    let is = number_at bytes 0 == all_namespaces in
    elim (cases_lt 3 zeros) [
      | inl some ↦ and_right has is (ap (λ n. n == all_namespaces) (zero_number zeros (omega (arith, some))))
      | inr few ↦ and_left has is (grind (arith, nat_tests, len, few))
    ]

written_is_not : (nsids : List ℕ) (zeros : ℕ) → All IsNsid nsids → begins_with_all nsids ≡ false → is_overflowed (list_of nsids zeros) ≡ false
written_is_not [] zeros each other = zeros_are_not zeros
written_is_not (nsid ∷ later) zeros each other =
    let is = All-head IsNsid nsid later each in
    ap is_overflowed (one_in_front nsid later zeros) ∙ front_told nsid (list_of later zeros) is.1 ∙ other

pub lists_are_read_back : ListsAreReadBack
lists_are_read_back nsids zeros each other =
    ap (λ b. if b then [] else listed (list_of nsids zeros)) (written_is_not nsids zeros each other) ∙ all_listed nsids zeros each

pub overflows_are_told : OverflowsAreTold
overflows_are_told = record {
  told = λ rest.
      let is : is_overflowed (overflow_of rest) ≡ true = front_told all_namespaces rest (omega arith) in
      (is, ap (λ b. if b then [] else listed (overflow_of rest)) is);
  only = written_is_not;
}
