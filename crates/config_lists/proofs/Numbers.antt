-- Numbers in a row, and those of them that pass a test.
use Rattle.std.proofs.Common.{◌≡◌, ℕ, zero, suc, ◌+◌, ◌-◌, ◌<◌, ◌≤◌, ◌&&◌, Bool, true, false, not, List, [], ◌∷◌, ◌++◌, filter, length, nat_eq, nat_lt, refl, ap, ◌∙◌, arith}
use Rattle.std.proofs.lemmas.Bool.Decides.{nat_tests}
use Rattle.std.proofs.lemmas.List.Filters.{length-filter_both}
use Rattle.std.proofs.lemmas.Map.Views.{any-filter_same}
use Rattle.std.specs.List.{list_any}
use Rattle.config_lists.specs.Numbered.{numbers_from}

-- tests that agree on numbers in a row keep the same of them
pub kept_alike : (p q : ℕ → Bool) (first n : ℕ) → ((k : ℕ) → first ≤ k → k < first + n → p k ≡ q k) → filter p (numbers_from first n) ≡ filter q (numbers_from first n)
kept_alike p q first zero same = refl
kept_alike p q first (suc n) same =
    let here : p first ≡ q first = same first (omega arith) (omega arith) in
    let rest = kept_alike p q (suc first) n (λ k above below. same k (omega arith) (omega arith)) in
    rw (here, rest) refl

pub none_kept : (p : ℕ → Bool) (first n : ℕ) → ((k : ℕ) → first ≤ k → k < first + n → p k ≡ false) → filter p (numbers_from first n) ≡ []
none_kept p first zero none = refl
none_kept p first (suc n) none =
    rw (none first (omega arith) (omega arith)) (none_kept p (suc first) n (λ k above below. none k (omega arith) (omega arith)))

pub numbers_next : (first n : ℕ) → numbers_from first (suc n) ≡ numbers_from first n ++ (first + n) ∷ []
numbers_next first zero = let same : first ≡ first + 0 = omega arith in ap (λ k. k ∷ []) same
numbers_next first (suc n) =
    let same : suc first + n ≡ first + suc n = omega arith in
    ap (λ (l : List ℕ). first ∷ l) (numbers_next (suc first) n ∙ ap (λ k. numbers_from (suc first) n ++ k ∷ []) same)

pub length-numbers : (first n : ℕ) → length (numbers_from first n) ≡ n
length-numbers first zero = refl
length-numbers first (suc n) = ap suc (length-numbers (suc first) n)

-- what is kept is no longer
pub few_kept : (p : ℕ → Bool) (first n : ℕ) → length (filter p (numbers_from first n)) ≤ n
few_kept p first n =
    omega (arith, length-filter_both p (λ x. not (p x)) (λ _. refl) (numbers_from first n), length-numbers first n)

-- numbers in a row are those between two
pub numbers_between : (first n k : ℕ) → list_any (nat_eq k) (numbers_from first n) ≡ (nat_lt k (first + n) && not (nat_lt k first))
numbers_between first zero k = grind (arith, nat_tests)
numbers_between first (suc n) k = rw (numbers_between (suc first) n k) (grind (arith, nat_tests))

-- a number is kept where it passes
pub kept_where : (test : ℕ → Bool) (xs : List ℕ) (k : ℕ) → list_any (nat_eq k) (filter test xs) ≡ (test k && list_any (nat_eq k) xs)
kept_where test xs k =
    any-filter_same (nat_eq k) test (test k) (λ j same. ap test (grind (arith, nat_tests, same))) xs

-- ---- the first of those from one on

one_left : (next end : ℕ) → next < end → numbers_from next (end - next) ≡ next ∷ numbers_from (next + 1) (end - (next + 1))
one_left next end below =
    let more : end - next ≡ suc (end - (next + 1)) = omega arith in
    let after : suc next ≡ next + 1 = omega arith in
    rw (more, after) refl

-- the next one passes
pub shown_next : (p : ℕ → Bool) (next end : ℕ) → next < end → p next ≡ true → filter p (numbers_from next (end - next)) ≡ next ∷ filter p (numbers_from (next + 1) (end - (next + 1)))
shown_next p next end below there = rw (one_left next end below, there) refl

-- so many that do not pass are passed over
hidden_many : (p : ℕ → Bool) (next n end : ℕ) → next + n ≤ end → ((k : ℕ) → next ≤ k → k < next + n → p k ≡ false)
    → filter p (numbers_from next (end - next)) ≡ filter p (numbers_from (next + n) (end - (next + n)))
hidden_many p next zero end most none = ap (λ k. filter p (numbers_from k (end - k))) (omega arith)
hidden_many p next (suc n) end most none =
    rw (one_left next end (omega (arith, most)), none next (omega arith) (omega arith)) refl
    ∙ hidden_many p (next + 1) n end (omega (arith, most)) (λ k above below. none k (omega (arith, above)) (omega (arith, below)))
    ∙ ap (λ k. filter p (numbers_from k (end - k))) (omega arith)

-- .. those up to one
pub hidden_between : (p : ℕ → Bool) (next to end : ℕ) → next ≤ to → to ≤ end → ((k : ℕ) → next ≤ k → k < to → p k ≡ false)
    → filter p (numbers_from next (end - next)) ≡ filter p (numbers_from to (end - to))
hidden_between p next to end above most none =
    let last : next + (to - next) ≡ to = omega (arith, above) in
    hidden_many p next (to - next) end (omega (arith, above, most)) (λ k from below. none k from (omega (arith, below, last)))
    ∙ ap (λ k. filter p (numbers_from k (end - k))) last
