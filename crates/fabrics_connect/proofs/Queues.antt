-- The queues of a controller as a function of the identifier: what one more, one less and none make of it.
use Rattle.std.proofs.Common.{◌≡◌, ℕ, ◌<◌, ◌==◌, Bool, true, false, not, ◌&&◌, ◌||◌, List, length, map, set, get_or, if◌then◌else◌, refl, sym, ap, ◌∙◌, inl, inr, arith, length-set}
use Rattle.std.specs.List.{range_with_len}
use Rattle.std.proofs.lemmas.Bool.{cases_eq}
use Rattle.std.proofs.lemmas.Bool.Decides.{nat_tests}
use Rattle.std.proofs.lemmas.List.{get_or-set_same, get_or-set_other}
use Rattle.std.proofs.lemmas.List.FromFn.{fill_by_all, length-map-range_with_len, get_or-map-range_with_len}
use Rattle.fabrics_connect.specs.QueueIds.{no_queues}

-- a write of one place of the list of a function's values
set-map : (f g : ℕ → Bool) (n q : ℕ) (has : Bool) → ((j : ℕ) → g j ≡ (if j == q then has else f j))
    → set (map f (range_with_len 0 n)) q has ≡ map g (range_with_len 0 n)
set-map f g n q has changed =
    fill_by_all g (set old q has) n false (length-set old q has ∙ long) at
  where
    old : List Bool
    old = map f (range_with_len 0 n)

    long : length old ≡ n
    long = length-map-range_with_len f 0 n

    at : (k : ℕ) → k < n → get_or (set old q has) k false ≡ g k
    at k below =
        elim (cases_eq k q) [
          | inl same ↦
              let equal : (k == q) ≡ true = grind (arith, nat_tests) in
              ap (λ j. get_or (set old q has) j false) same ∙ get_or-set_same old q has false (omega (arith, long)) ∙ sym (changed k ∙ rw equal refl)
          | inr differs ↦
              let unequal : (k == q) ≡ false = grind (arith, nat_tests) in
              get_or-set_other old q k has false differs ∙ get_or-map-range_with_len f 0 n k k false below (omega arith) ∙ sym (changed k ∙ rw unequal refl)
        ]

or_is : (b c : Bool) → (b || c) ≡ (if b then true else c)
or_is true c = refl
or_is false c = refl

and_is : (b c : Bool) → (not b && c) ≡ (if b then false else c)
and_is true c = refl
and_is false c = refl

-- one queue more
pub set-map_true : (f : ℕ → Bool) (q : ℕ) → set (map f (range_with_len 0 9)) q true ≡ map (λ j. (j == q) || f j) (range_with_len 0 9)
set-map_true f q = set-map f (λ j. (j == q) || f j) 9 q true (λ j. or_is (j == q) (f j))

-- one less
pub set-map_false : (f : ℕ → Bool) (q : ℕ) → set (map f (range_with_len 0 9)) q false ≡ map (λ j. not (j == q) && f j) (range_with_len 0 9)
set-map_false f q = set-map f (λ j. not (j == q) && f j) 9 q false (λ j. and_is (j == q) (f j))

-- and none
pub map_false : map (λ (j : ℕ). false) (range_with_len 0 9) ≡ no_queues
map_false = refl
