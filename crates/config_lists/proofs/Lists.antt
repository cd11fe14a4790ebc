-- What a change of a list at the items that a test names keeps.
use Rattle.std.proofs.Common.{◌≡◌, ◌≢◌, ℕ, ◌+◌, ◌<◌, ◌≤◌, Bool, true, false, not, ◌&&◌, filter, cond, Option, Some, None, IfSome, find, List, [], ◌∷◌, ◌++◌, length, get_or, take, drop, map, All, AllPairs, nat_lt, position, refl, ap, sym, ◌∙◌, subst, arith, inl, inr}
use Rattle.std.proofs.Math.ListN.{set}
use Rattle.std.proofs.Math.Seq.{take-append_seam}
use Rattle.std.proofs.lemmas.Bool.{both_ways, cond-true, cond-false, cond_both, cases_Bool, cases_lt, cases_order, lt-ltb, not_from_false, or_cases, or_left, or_right}
use Rattle.std.proofs.lemmas.Grind.{get_or-set_at}
use Rattle.std.proofs.lemmas.List.{ext_get_or, get_or-map, get_or-set_other, length-map, length-set}
use Rattle.std.proofs.lemmas.List.Edits.{map_over_more}
use Rattle.std.proofs.lemmas.List.Elements.{All-head, All-map, All-tail, All-weaker}
use Rattle.std.proofs.lemmas.List.Folds.{list_any_at, map_fixed}
use Rattle.std.proofs.lemmas.List.Quantifiers.{position-Some}
use Rattle.std.proofs.lemmas.Map.Views.{any-filter_same}
use Rattle.std.proofs.lemmas.List.Sums.{fails_before_first, length-filter, count_by-le-length}
use Rattle.std.specs.List.{list_any, position_or_len}
use Rattle.config_lists.specs.Lists.{changed_where, without}

-- where there is no first item that passes, each fails
no_place : {X : Type 0} (test : X → Bool) (xs : List X) (k : ℕ) (d : X) → position test xs ≡ None → k < length xs → test (get_or xs k d) ≡ false
no_place test xs k d none below =
    let first : ℕ = position_or_len test xs in
    elim (cases_lt first (length xs)) [
      | inl within ↦
          let found : position test xs ≡ Some first = cond-true (nat_lt first (length xs)) (Some first) None (lt-ltb first (length xs) within) in
          absurd (cc (found, none))
      | inr past ↦ fails_before_first test xs k d (omega arith)
    ]

-- what a change of an item comes to
abbrev entry_after : {X : Type 0} → (X → Bool) → (X → X) → X → X
entry_after test change x = cond (test x) (change x) x

-- one more item of a loop that changes those that pass: this one does
pub changed_where_more : {X : Type 0} (test : X → Bool) (change : X → X) (xs ys : List X) (i : ℕ) (x : X) → i < length xs → ys ≡ changed_where test change (take i xs) ++ drop i xs → x ≡ get_or ys i x → test x ≡ true → set ys i (change x) ≡ changed_where test change (take (i + 1) xs) ++ drop (i + 1) xs
changed_where_more test change xs ys i x below so_far read passes =
    subst (λ v. set ys i v ≡ changed_where test change (take (i + 1) xs) ++ drop (i + 1) xs) (cond-true (test x) (change x) x passes) (map_over_more (entry_after test change) xs ys i x below so_far read)

-- this one does not
pub changed_where_past : {X : Type 0} (test : X → Bool) (change : X → X) (xs ys : List X) (i : ℕ) (x : X) → i < length xs → ys ≡ changed_where test change (take i xs) ++ drop i xs → x ≡ get_or ys i x → test x ≡ false → set ys i x ≡ changed_where test change (take (i + 1) xs) ++ drop (i + 1) xs
changed_where_past test change xs ys i x below so_far read fails =
    subst (λ v. set ys i v ≡ changed_where test change (take (i + 1) xs) ++ drop (i + 1) xs) (cond-false (test x) (change x) x fails) (map_over_more (entry_after test change) xs ys i x below so_far read)

-- a test that finds no item fails at each
pub no_item : {X : Type 0} (test : X → Bool) (xs : List X) (k : ℕ) (d : X) → list_any test xs ≡ false → k < length xs → test (get_or xs k d) ≡ false
no_item test xs k d none below =
    elim (cases_Bool (test (get_or xs k d))) [ inl passes ↦ absurd (both_ways (list_any test xs) none (list_any_at test xs k d below passes)) | inr fails ↦ fails ]

pub All-changed_where : {X : Type 0} (P : X → Type 0) (test : X → Bool) (change : X → X) → ((x : X) → P x → P (change x)) → (xs : List X) → All P xs → All P (changed_where test change xs)
All-changed_where P test change keeps xs all =
    All-map P (entry_after test change) xs (All-weaker P (λ x. P (entry_after test change x)) (λ x here. cond_both (test x) (change x) x P (λ _. keeps x here) (λ _. here)) xs all)

-- where a change keeps the key, the key of each item is as it was
key_after : {X K : Type 0} (key : X → K) (test : X → Bool) (change : X → X) → ((x : X) → test x ≡ true → key (change x) ≡ key x) → (x : X) → key (entry_after test change x) ≡ key x
key_after key test change keeps x = cond_both (test x) (change x) x (λ y. key y ≡ key x) (keeps x) (λ _. refl)

pub distinct-changed_where : {X K : Type 0} (key : X → K) (test : X → Bool) (change : X → X) → ((x : X) → test x ≡ true → key (change x) ≡ key x) → (xs : List X) → AllPairs (λ x y. key x ≢ key y) xs → AllPairs (λ x y. key x ≢ key y) (changed_where test change xs)
distinct-changed_where {X = X} {K = K} key test change keeps xs distinct i j d less below same =
    let f : X → X = entry_after test change in
    let second : j < length xs = omega (arith, below, length-map xs f) in
    let first : i < length xs = omega arith in
    let at_first : key (get_or (map f xs) i d) ≡ key (get_or xs i d) = ap key (get_or-map f xs i d d first) ∙ key_after key test change keeps (get_or xs i d) in
    let at_second : key (get_or (map f xs) j d) ≡ key (get_or xs j d) = ap key (get_or-map f xs j d d second) ∙ key_after key test change keeps (get_or xs j d) in
    distinct i j d less second (sym at_first ∙ same ∙ at_second)

-- a test that cannot tell an item from what it becomes finds what it found
pub list_any-changed_where : {X : Type 0} (p test : X → Bool) (change : X → X) → ((x : X) → test x ≡ true → p (change x) ≡ p x) → (xs : List X) → list_any p (changed_where test change xs) ≡ list_any p xs
list_any-changed_where p test change keeps [] = refl
list_any-changed_where p test change keeps (x ∷ xs) =
    rw (key_after p test change keeps x, list_any-changed_where p test change keeps xs) refl

-- a test that passes an item as it is, and after the change where that is made, finds it again
pub list_any-changed_kept : {X : Type 0} (p test : X → Bool) (change : X → X) → ((x : X) → test x ≡ true → p x ≡ true → p (change x) ≡ true) → (xs : List X) → list_any p xs ≡ true → list_any p (changed_where test change xs) ≡ true
list_any-changed_kept p test change keeps [] found = found
list_any-changed_kept p test change keeps (x ∷ xs) found =
    let after : Bool = list_any p (changed_where test change xs) in
    elim (or_cases (p x) (list_any p xs) found) [
      | inl first ↦ or_left (p (entry_after test change x)) after (cond_both (test x) (change x) x (λ y. p y ≡ true) (λ passes. keeps x passes first) (λ _. first))
      | inr later ↦ or_right (p (entry_after test change x)) after (list_any-changed_kept p test change keeps xs later)
    ]

-- a test that finds no item that goes finds what it found
pub list_any-without : {X : Type 0} (p test : X → Bool) → ((x : X) → p x ≡ true → test x ≡ false) → (xs : List X) → list_any p (without test xs) ≡ list_any p xs
list_any-without p test others xs = any-filter_same p (λ x. not (test x)) true (λ x found. not_from_false (test x) (others x found)) xs

-- where no two items pass, a write at the first that passes changes each
pub set-changed_where : {X : Type 0} (test : X → Bool) (y : X) (xs : List X) (i : ℕ) → position test xs ≡ Some i → AllPairs (λ a b. test a ≡ true → test b ≡ false) xs → set xs i y ≡ changed_where test (λ _. y) xs
set-changed_where {X = X} test y xs i found alone =
    let f : X → X = entry_after test (λ _. y) in
    let at : (i < length xs) × (test (get_or xs i y) ≡ true) × ((k : ℕ) → k < i → test (get_or xs k y) ≡ false) = position-Some test xs i y found in
    ext_get_or y (set xs i y) (map f xs) (length-set xs i y ∙ sym (length-map xs f)) (λ k below.
    let within : k < length xs = omega (arith, below, length-set xs i y) in
    let mapped : get_or (map f xs) k y ≡ f (get_or xs k y) = get_or-map f xs k y y within in
    elim (cases_order k i) [
      | inl here ↦
          get_or-set_at xs i k y y here at.0 ∙ sym (mapped ∙ cond-true (test (get_or xs k y)) y (get_or xs k y) (subst (λ n. test (get_or xs n y) ≡ true) (sym here) at.1))
      | inr apart ↦
          let fails : test (get_or xs k y) ≡ false = elim apart [ inl before ↦ at.2 k before | inr after ↦ alone i k y after within at.1 ] in
          let other : k ≢ i = elim apart [ inl before ↦ omega arith | inr after ↦ omega arith ] in
          get_or-set_other xs i k y y other ∙ sym (mapped ∙ cond-false (test (get_or xs k y)) y (get_or xs k y) fails)
    ])

-- where no item passes, nothing changes
pub changed_where_none : {X : Type 0} (test : X → Bool) (change : X → X) (xs : List X) → position test xs ≡ None → changed_where test change xs ≡ xs
changed_where_none test change xs none =
    map_fixed (entry_after test change) xs (λ k d below. cond-false (test (get_or xs k d)) (change (get_or xs k d)) (get_or xs k d) (no_place test xs k d none below))

-- what a vector holds after its slice was written
pub written_back : {X : Type 0} (n : ℕ) (ys xs : List X) → n ≡ length ys → take n (ys ++ drop (length ys) xs) ≡ ys
written_back n ys xs whole = rw whole (take-append_seam ys (drop (length ys) xs))

pub length-without : {X : Type 0} (test : X → Bool) (xs : List X) → length (without test xs) ≤ length xs
length-without test xs = rw length-filter (count_by-le-length (λ x. not (test x)) xs)

pub length-changed_where : {X : Type 0} (test : X → Bool) (change : X → X) (xs : List X) → length (changed_where test change xs) ≡ length xs
length-changed_where test change xs = length-map xs _

found_by : {X : Type 0} (P : X → Type 0) (found : Bool) (x : X) (rest : Option X) → P x → IfSome rest P → IfSome (cond found (Some x) rest) P
found_by P true x rest h k = h
found_by P false x rest h k = k

-- what holds of each holds of the one that is found
pub found_holds : {X : Type 0} (P : X → Type 0) (test : X → Bool) (xs : List X) → All P xs → IfSome (find test xs) P
found_holds P test [] all = tt
found_holds P test (x ∷ xs) all =
    found_by P (test x) x (find test xs) (All-head P x xs all) (found_holds P test xs (All-tail P x xs all))

-- what is found of those that pass a test passes both
pub find-filter : {X : Type 0} (p q : X → Bool) (xs : List X) → find p (filter q xs) ≡ find (λ x. p x && q x) xs
find-filter p q [] = refl
find-filter p q (x ∷ xs) =
    elim (cases_Bool (q x)) [
      | inl kept ↦ elim (cases_Bool (p x)) [
        | inl is ↦ rw (kept, is) refl
        | inr not_it ↦ rw (kept, not_it) (find-filter p q xs)
      ]
      | inr left ↦ elim (cases_Bool (p x)) [
        | inl is ↦ rw (left, is) (find-filter p q xs)
        | inr not_it ↦ rw (left, not_it) (find-filter p q xs)
      ]
    ]
