-- What is left of a range of a list.
use Rattle.std.proofs.Common.{◌≡◌, ◌≢◌, ℕ, ◌+◌, ◌-◌, ◌<◌, ◌≤◌, List, [], length, take, drop, sym, ap, ◌∙◌, arith}
use Rattle.std.specs.Prelude.{slice_range}
use Rattle.std.proofs.lemmas.List.{drop-drop, drop-take, length-drop, length-take}

pub some_left : (xs : List ℕ) (a b : ℕ) → a < b → b ≤ length xs → slice_range xs a b ≢ []
some_left xs a b some within = λ none.
    let e : length (take (b - a) (drop a xs)) ≡ 0 = ap length none in
    absurd (omega (arith, length-take (b - a) (drop a xs), length-drop a xs))

pub none_left : (xs : List ℕ) (a b : ℕ) → b ≤ a → slice_range xs a b ≡ []
none_left xs a b none =
    let e : b - a ≡ 0 = omega arith in
    ap (λ (n : ℕ). take n (drop a xs)) e

pub first_of : (xs : List ℕ) (n : ℕ) → slice_range xs 0 n ≡ take n xs
first_of xs n =
    let e : n - 0 ≡ n = omega arith in
    ap (λ (m : ℕ). take m xs) e

pub left_of : (xs : List ℕ) (a n b : ℕ) → a + n ≤ b → slice_range xs (a + n) b ≡ drop n (slice_range xs a b)
left_of xs a n b within =
    let e : b - a ≡ n + (b - (a + n)) = omega arith in
    sym (ap (λ (m : ℕ). drop n (take m (drop a xs))) e ∙ drop-take n (b - (a + n)) (drop a xs)
    ∙ ap (λ (ys : List ℕ). take (b - (a + n)) ys) (drop-drop n a xs))
