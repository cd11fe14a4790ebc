-- Numbers in a row up to one, as a walk comes to the next.
use Rattle.std.proofs.Common.{◌≡◌, ℕ, suc, ◌+◌, ◌-◌, ◌≤◌, [], ◌∷◌, ◌++◌, ap, ◌∙◌, arith}
use Rattle.config_lists.specs.Numbered.{numbers_from}
use Rattle.config_lists.proofs.Numbers.{numbers_next}

-- the numbers from 1 up to one that is passed
pub up_to : (k : ℕ) → 1 ≤ k → numbers_from 1 (k + 1 - 1) ≡ numbers_from 1 (k - 1) ++ k ∷ []
up_to k above =
    let more : k + 1 - 1 ≡ suc (k - 1) = omega arith in
    let last : 1 + (k - 1) ≡ k = omega arith in
    ap (numbers_from 1) more ∙ numbers_next 1 (k - 1) ∙ ap (λ n. numbers_from 1 (k - 1) ++ n ∷ []) last
