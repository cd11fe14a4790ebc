-- Where data begins: at the first multiple of the alignment that is not inside the header.
use Rattle.std.proofs.Common.{◌≡◌, ℕ, ◌+◌, ◌-◌, ◌*◌, ◌/◌, ◌%◌, ◌<◌, ap, ◌∙◌, inl, inr, arith}
use Rattle.std.proofs.Math.Nat.{div-add-mod, mod-eq_of_lt, mod-lt, mod_self, mul-add-mod_self_left}
use Rattle.std.proofs.lemmas.Bool.{cases_lt}
use Rattle.std.specs.Int.{next_multiple_of}

pub next-is_multiple : (x y : ℕ) → 0 < y → next_multiple_of x y % y ≡ 0
next-is_multiple x y some =
    let below : x % y < y = mod-lt x some in
    let split : y * (x / y) + x % y ≡ x = div-add-mod x y in
    elim (cases_lt 0 (x % y)) [
      | inl rest ↦
          let short : (y - x % y) % y ≡ y - x % y = mod-eq_of_lt (omega arith) in
          let whole : x + (y - x % y) ≡ y * (x / y) + y = omega arith in
          ap (λ (n : ℕ). (x + n) % y) short ∙ ap (λ (n : ℕ). n % y) whole ∙ mul-add-mod_self_left y (x / y) y ∙ mod_self y
      | inr none ↦
          let multiple : x % y ≡ 0 = omega arith in
          let nothing : y - x % y ≡ y = omega arith in
          let here : x + 0 ≡ x = omega arith in
          ap (λ (n : ℕ). (x + n % y) % y) nothing ∙ ap (λ (n : ℕ). (x + n) % y) (mod_self y) ∙ ap (λ (n : ℕ). n % y) here ∙ multiple
    ]

pub next-near : (x y : ℕ) → 0 < y → next_multiple_of x y < x + y
next-near x y some = let near : (y - x % y) % y < y = mod-lt (y - x % y) some in omega arith
