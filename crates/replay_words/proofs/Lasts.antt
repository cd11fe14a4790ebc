-- The last bytes of a string.
use Rattle.std.proofs.Common.{◌≡◌, ℕ, ◌-◌, ◌+◌, ◌≤◌, ◌<◌, List, ◌++◌, length, drop, sym, ap, ◌∙◌, arith, inl, inr, length-append}
use Rattle.std.specs.Prelude.{◌⊎◌}
use Rattle.std.proofs.Math.Seq.{drop-append_seam, drop-append-add}
use Rattle.std.proofs.lemmas.Bool.{cases_lt}
use Rattle.std.proofs.lemmas.List.{drop_all, drop-append-le}

by_cases : (front back : List ℕ) (len : ℕ) → (length back < len) ⊎ (len ≤ length back)
    → drop (length front - (len - length back)) front ++ drop (length back - len) back ≡ drop (length (front ++ back) - len) (front ++ back)
by_cases front back len (inl less) =
    let total = length-append front back in
    let behind = len - length back in
    let start : length (front ++ back) - len ≡ length front - behind = omega (arith, total, less) in
    let none : length back - len ≡ 0 = omega (arith, less) in
    ap (λ n. drop (length front - behind) front ++ drop n back) none
    ∙ sym (drop-append-le (length front - behind) front back (omega arith))
    ∙ ap (λ n. drop n (front ++ back)) (sym start)
by_cases front back len (inr most) =
    let total = length-append front back in
    let last = drop (length back - len) back in
    let start : length (front ++ back) - len ≡ length front + (length back - len) = omega (arith, total, most) in
    let all : length front - (len - length back) ≡ length front = omega (arith, most) in
    ap (λ n. drop n front ++ last) all ∙ ap (λ (l : List ℕ). l ++ last) (drop_all (length front) front (omega arith))
    ∙ sym (drop-append-add front back (length back - len)) ∙ ap (λ n. drop n (front ++ back)) (sym start)

-- those of two strings together: of the first what the second has not
pub last_of_both : (front back : List ℕ) (len : ℕ)
    → drop (length front - (len - length back)) front ++ drop (length back - len) back ≡ drop (length (front ++ back) - len) (front ++ back)
last_of_both front back len = by_cases front back len (cases_lt (length back) len)

-- as many as the end has
pub last_is_end : (front back : List ℕ) → drop (length (front ++ back) - length back) (front ++ back) ≡ back
last_is_end front back =
    let total = length-append front back in
    let start : length (front ++ back) - length back ≡ length front = omega (arith, total) in
    ap (λ n. drop n (front ++ back)) start ∙ drop-append_seam front back
