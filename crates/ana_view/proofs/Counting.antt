-- A number for each group, and what is counted.
use Rattle.std.proofs.Common.{◌≡◌, ℕ, zero, suc, ◌+◌, ◌-◌, ◌<◌, ◌≤◌, ◌%◌, ◌^◌, Bool, true, false, ◌||◌, List, [], ◌∷◌, get_or, length, map, ◌++◌, ◌==◌, ◌≢◌, Option, set, refl, ap, sym, ◌∙◌, arith, inl, inr}
use Rattle.std.proofs.Math.Nat.{mod-add-mod}
use Rattle.std.proofs.lemmas.Bool.{cases_Bool}
use Rattle.std.proofs.lemmas.Bool.Decides.{nat_tests}
use Rattle.std.proofs.lemmas.List.{ext_get_or, get_or-set_other, get_or-set_same}
use Rattle.std.specs.List.{filter_map, list_any}
use Rattle.config_lists.specs.Numbered.{numbers_from}
use Rattle.ana_view.specs.Changes.{changes_since, counts_of, edited, group_changes_since, one_where}
use Rattle.nvt_config.specs.Configuration.{Configuration}
use Rattle.ana_view.specs.Counts.{Counts, count_after, count_in, counts_after, counts_with, for_each_group}
use Rattle.ana_view.specs.GroupChanges.{AreChanges, has_changed}
use Rattle.ana_view.specs.Group.{Descriptor, any_group, changes_ana, changes_group, listed_by}
use Rattle.ana_view.specs.Laws.{ChangesAreCounted}
use Rattle.ana_view.proofs.Numbers.{up_to}

-- ---- what goes by groups in a row

get_or-each : (f : ℕ → ℕ) (first n k : ℕ) → k < n → get_or (map f (numbers_from first n)) k 0 ≡ f (first + k)
get_or-each f first zero k below = absurd (omega arith)
get_or-each f first (suc n) zero below = ap f (omega arith)
get_or-each f first (suc n) (suc k) below = get_or-each f (suc first) n k (omega arith) ∙ ap f (omega arith)

length-each : (f : ℕ → ℕ) (first n : ℕ) → length (map f (numbers_from first n)) ≡ n
length-each f first zero = refl
length-each f first (suc n) = ap suc (length-each f (suc first) n)

pub count_of_each : (f : ℕ → ℕ) (group : ℕ) → 1 ≤ group → group ≤ 32 → count_in (for_each_group f) group ≡ f group
unfolding for_each_group
count_of_each f group above below = get_or-each f 1 32 (group - 1) (omega arith) ∙ ap f (omega arith)

-- numbers by groups are these where each is
pub each_is : (f : ℕ → ℕ) (counts : List ℕ) → length counts ≡ 32 → ((group : ℕ) → 1 ≤ group → group ≤ 32 → count_in counts group ≡ f group) → counts ≡ for_each_group f
unfolding for_each_group
each_is f counts len same =
    ext_get_or 0 counts (map f (numbers_from 1 32)) (len ∙ sym (length-each f 1 32)) (λ k below.
    let within : k < 32 = omega arith in
    let place : 1 + k - 1 ≡ k = omega arith in
    ap (λ i. get_or counts i 0) (sym place) ∙ same (1 + k) (omega arith) (omega arith) ∙ sym (get_or-each f 1 32 k within))

pub each_alike : (f h : ℕ → ℕ) → ((group : ℕ) → 1 ≤ group → group ≤ 32 → f group ≡ h group) → for_each_group f ≡ for_each_group h
unfolding for_each_group
each_alike f h same = in_a_row 1 32 (λ k above below. same k above (omega arith)) where
  in_a_row : (first n : ℕ) → ((k : ℕ) → first ≤ k → k < first + n → f k ≡ h k) → map f (numbers_from first n) ≡ map h (numbers_from first n)
  in_a_row first zero each = refl
  in_a_row first (suc n) each =
      let here : f first ≡ h first = each first (omega arith) (omega arith) in
      rw (here, in_a_row (suc first) n (λ k above below. each k (omega arith) (omega arith))) refl

pub any_alike : (p q : ℕ → Bool) → ((group : ℕ) → 1 ≤ group → group ≤ 32 → p group ≡ q group) → any_group p ≡ any_group q
unfolding any_group
any_alike p q same = in_a_row 1 32 (λ k above below. same k above (omega arith)) where
  in_a_row : (first n : ℕ) → ((k : ℕ) → first ≤ k → k < first + n → p k ≡ q k) → list_any p (numbers_from first n) ≡ list_any q (numbers_from first n)
  in_a_row first zero each = refl
  in_a_row first (suc n) each =
      let here : p first ≡ q first = each first (omega arith) (omega arith) in
      rw (here, in_a_row (suc first) n (λ k above below. each k (omega arith) (omega arith))) refl

pub listed_alike : (f h : ℕ → Option Descriptor) → ((group : ℕ) → 1 ≤ group → group ≤ 32 → f group ≡ h group) → listed_by f ≡ listed_by h
unfolding listed_by
listed_alike f h same = in_a_row 1 32 (λ k above below. same k above (omega arith)) where
  in_a_row : (first n : ℕ) → ((k : ℕ) → first ≤ k → k < first + n → f k ≡ h k) → filter_map f (numbers_from first n) ≡ filter_map h (numbers_from first n)
  in_a_row first zero each = refl
  in_a_row first (suc n) each =
      let here : f first ≡ h first = each first (omega arith) (omega arith) in
      rw (here, in_a_row (suc first) n (λ k above below. each k (omega arith) (omega arith))) refl

-- whether some group so far passes, with one more
any_next : (p : ℕ → Bool) (k : ℕ) → 1 ≤ k → list_any p (numbers_from 1 (k + 1 - 1)) ≡ (list_any p (numbers_from 1 (k - 1)) || p k)
any_next p k above = ap (list_any p) (up_to k above) ∙ any_behind (numbers_from 1 (k - 1)) where
  or_false : (b : Bool) → (b || false) ≡ b
  or_false true = refl
  or_false false = refl

  or_or : (a b c : Bool) → (a || (b || c)) ≡ ((a || b) || c)
  or_or true b c = refl
  or_or false b c = refl

  any_behind : (xs : List ℕ) → list_any p (xs ++ k ∷ []) ≡ (list_any p xs || p k)
  any_behind [] = or_false (p k)
  any_behind (x ∷ xs) = ap (λ b. p x || b) (any_behind xs) ∙ or_or (p x) (list_any p xs) (p k)

-- .. which passes
pub any_more : (p : ℕ → Bool) (k : ℕ) → 1 ≤ k → p k ≡ true → list_any p (numbers_from 1 (k + 1 - 1)) ≡ true
any_more p k above passes = any_next p k above ∙ ap (λ b. list_any p (numbers_from 1 (k - 1)) || b) passes ∙ or_true (list_any p (numbers_from 1 (k - 1))) where
  or_true : (b : Bool) → (b || true) ≡ true
  or_true true = refl
  or_true false = refl

-- .. or does not
pub any_still : (p : ℕ → Bool) (k : ℕ) → 1 ≤ k → p k ≡ false → list_any p (numbers_from 1 (k + 1 - 1)) ≡ list_any p (numbers_from 1 (k - 1))
any_still p k above fails = any_next p k above ∙ ap (λ b. list_any p (numbers_from 1 (k - 1)) || b) fails ∙ or_false (list_any p (numbers_from 1 (k - 1))) where
  or_false : (b : Bool) → (b || false) ≡ b
  or_false true = refl
  or_false false = refl

pub any_of_all : (p : ℕ → Bool) (n : ℕ) → n ≡ 32 → list_any p (numbers_from 1 n) ≡ any_group p
unfolding any_group
any_of_all p n all = ap (λ m. list_any p (numbers_from 1 m)) all

-- ---- counts go round

counted_more : (b : Bool) (n m : ℕ) → m ≡ 2 ^ 64 → (one_where b + n) % m ≡ count_after b (n % m)
counted_more true n m is =
    let one : 1 + n ≡ n + 1 = omega arith in
    ap (λ k. k % m) one ∙ sym (mod-add-mod n m 1) ∙ ap (λ k. (n % m + 1) % k) is
counted_more false n m is =
    let none : 0 + n ≡ n = omega arith in
    ap (λ k. k % m) none

pub changes_are_counted : ChangesAreCounted
changes_are_counted = record {
  first = λ subsystem port. refl;
  once_enabled = λ before subsystem port. refl;
  after_edit = λ before old new subsystem port.
      let groups = each_alike (λ group. group_changes_since (edited old new ∷ before) subsystem port group % 2 ^ 64)
      (λ group. count_after (changes_group old new subsystem port group) (count_in (counts_of before subsystem port).groups group))
      (λ group above below.
      counted_more (changes_group old new subsystem port group) (group_changes_since before subsystem port group) (2 ^ 64) refl
      ∙ ap (count_after (changes_group old new subsystem port group)) (sym (count_of_each (λ g. group_changes_since before subsystem port g % 2 ^ 64) group above below))) in
      let changes = counted_more (changes_ana old new subsystem port) (changes_since before subsystem port) (2 ^ 64) refl in
      rw (groups, changes) refl;
}

-- ---- what an edit changes

pub any_changed : (old new : Configuration) (subsystem : List ℕ) (port : ℕ) (changes : List Bool) → AreChanges old new subsystem port changes
    → any_group (has_changed changes) ≡ changes_ana old new subsystem port
any_changed old new subsystem port changes are = any_alike (has_changed changes) (changes_group old new subsystem port) are

pub counted_changes : (old new : Configuration) (subsystem : List ℕ) (port : ℕ) (changes : List Bool) (counts : Counts) → AreChanges old new subsystem port changes
    → counts_with (has_changed changes) counts ≡ counts_after old new subsystem port counts
counted_changes old new subsystem port changes counts are =
    let groups = each_alike (λ group. count_after (has_changed changes group) (count_in counts.groups group)) (λ group. count_after (changes_group old new subsystem port group) (count_in counts.groups group))
    (λ group above below. ap (λ b. count_after b (count_in counts.groups group)) (are group above below)) in
    rw (groups, any_changed old new subsystem port changes are) refl

-- ---- group by group

-- one group more, which has changed
pub counted_next : (p : ℕ → Bool) (old counts : List ℕ) (k : ℕ) → 1 ≤ k → k - 1 < length counts → p k ≡ true
    → ((g : ℕ) → 1 ≤ g → g < k → count_in counts g ≡ count_after (p g) (count_in old g)) → count_in counts k ≡ count_in old k
    → (g : ℕ) → 1 ≤ g → g < k + 1 → count_in (set counts (k - 1) ((get_or counts (k - 1) 0 + 1) % 2 ^ 64)) g ≡ count_after (p g) (count_in old g)
counted_next p old counts k above within changed counted here g from below =
    elim (cases_Bool (g == k)) [
      | inl same ↦
          let is : g ≡ k = grind (arith, nat_tests, same) in
          ap (λ i. count_in (set counts (k - 1) ((get_or counts (k - 1) 0 + 1) % 2 ^ 64)) i) is
          ∙ get_or-set_same counts (k - 1) ((get_or counts (k - 1) 0 + 1) % 2 ^ 64) 0 within
          ∙ ap (λ n. (n + 1) % 2 ^ 64) here
          ∙ ap (λ b. count_after b (count_in old k)) (sym changed)
          ∙ ap (λ i. count_after (p i) (count_in old i)) (sym is)
      | inr other ↦
          let earlier : g < k = grind (arith, nat_tests, other, below) in
          let apart : g - 1 ≢ k - 1 = λ same. omega (arith, same, earlier, from) in
          get_or-set_other counts (k - 1) (g - 1) ((get_or counts (k - 1) 0 + 1) % 2 ^ 64) 0 apart ∙ counted g from earlier
    ]

pub left_next : (counts : List ℕ) (k n : ℕ) → 1 ≤ k → (g : ℕ) → k + 1 ≤ g → count_in (set counts (k - 1) n) g ≡ count_in counts g
left_next counts k n above g behind =
    let apart : g - 1 ≢ k - 1 = λ same. omega (arith, same, behind, above) in
    get_or-set_other counts (k - 1) (g - 1) n 0 apart

-- .. which has not
pub kept_next : (p : ℕ → Bool) (old counts : List ℕ) (k : ℕ) → p k ≡ false
    → ((g : ℕ) → 1 ≤ g → g < k → count_in counts g ≡ count_after (p g) (count_in old g)) → count_in counts k ≡ count_in old k
    → (g : ℕ) → 1 ≤ g → g < k + 1 → count_in counts g ≡ count_after (p g) (count_in old g)
kept_next p old counts k same counted here g from below =
    elim (cases_Bool (g == k)) [
      | inl is_here ↦
          let is : g ≡ k = grind (arith, nat_tests, is_here) in
          ap (count_in counts) is ∙ here ∙ ap (λ b. count_after b (count_in old k)) (sym same) ∙ ap (λ i. count_after (p i) (count_in old i)) (sym is)
      | inr other ↦ counted g from (grind (arith, nat_tests, other, below))
    ]
