-- A submission queue's head goes round: counting one more response is one more, or back to 0.
use Rattle.std.proofs.Common.{◌≡◌, ℕ, ◌+◌, ◌*◌, ◌/◌, ◌%◌, ◌<◌, inl, inr, sym, ap, ◌∙◌, arith}
use Rattle.std.specs.Prelude.{nat_le, if◌then◌else◌}
use Rattle.std.proofs.Math.Nat.{mod-lt, mod-eq_of_lt, mul-add-mod_self_right}
use Rattle.std.proofs.lemmas.Nat.{div-add-mod'}
use Rattle.std.proofs.lemmas.Bool.Decides.{leb_tells}

-- one more leaves the remainder of the remainder and one
split : (n m : ℕ) → (n + 1) % (m + 1) ≡ (n % (m + 1) + 1) % (m + 1)
split n m =
    let whole : n ≡ n / (m + 1) * (m + 1) + n % (m + 1) = sym (div-add-mod' n (m + 1)) in
    let more : n + 1 ≡ n / (m + 1) * (m + 1) + (n % (m + 1) + 1) = omega arith in
    ap (λ (x : ℕ). x % (m + 1)) more ∙ mul-add-mod_self_right (n / (m + 1)) (m + 1) (n % (m + 1) + 1)

whole_is_none : (m : ℕ) → (m + 1) % (m + 1) ≡ 0
whole_is_none m =
    let one : m + 1 ≡ 1 * (m + 1) + 0 = omega arith in
    let small : 0 < m + 1 = omega arith in
    ap (λ (x : ℕ). x % (m + 1)) one ∙ mul-add-mod_self_right 1 (m + 1) 0 ∙ mod-eq_of_lt small

pub head_goes_round : (n m : ℕ) → (n + 1) % (m + 1) ≡ (if nat_le m (n % (m + 1)) then 0 else n % (m + 1) + 1)
head_goes_round n m =
    let below : n % (m + 1) < m + 1 = mod-lt n (omega arith) in
    elim (leb_tells m (n % (m + 1))) [
      | inl (test, full) ↦
          let same : n % (m + 1) + 1 ≡ m + 1 = omega arith in
          rw test (split n m ∙ ap (λ (x : ℕ). x % (m + 1)) same ∙ whole_is_none m)
      | inr (test, short) ↦
          let fits : n % (m + 1) + 1 < m + 1 = omega arith in
          rw test (split n m ∙ mod-eq_of_lt fits)
    ]
