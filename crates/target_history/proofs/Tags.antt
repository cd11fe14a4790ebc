-- How many transfers a connection has after a change of one tag.
use Rattle.std.proofs.Common.{◌≡◌, ℕ, zero, suc, ◌+◌, ◌<◌, ◌≤◌, ◌==◌, Bool, false, cond, Option, None, is_some, count_by, refl, sym, ap, ◌∙◌, inl, inr, arith}
use Rattle.std.specs.Prelude.{if◌then◌else◌}
use Rattle.std.specs.List.{range_with_len}
use Rattle.std.proofs.lemmas.Bool.{cases_eq}
use Rattle.std.proofs.lemmas.Bool.Decides.{nat_tests}
use Rattle.std.proofs.lemmas.List.Sums.{sum_by-cons}
use Rattle.data_transfer.specs.Parts.{count_of}
use Rattle.target_decision.specs.Transfer.{Tags}
use Rattle.target_history.proofs.Tests.{same_here}

-- one where a test passes, and else none
abbrev pub bit : Bool → ℕ
bit b = cond {A = ℕ} b 1 0

abbrev tally : (ℕ → Bool) → ℕ → ℕ
tally p t = cond {A = ℕ} (p t) 1 0

count_none : (p : ℕ → Bool) (a n : ℕ) → ((t : ℕ) → p t ≡ false) → count_by p (range_with_len a n) ≡ 0
count_none p a zero fails = refl
count_none p a (suc n) fails =
    let rest : count_by p (range_with_len (a + 1) n) ≡ 0 = count_none p (a + 1) n fails in
    let sum : bit false + count_by p (range_with_len (a + 1) n) ≡ 0 = omega arith in
    sum_by-cons (tally p) a (range_with_len (a + 1) n) ∙ ap (λ b. bit b + count_by p (range_with_len (a + 1) n)) (fails a) ∙ sum

count_same : (p q : ℕ → Bool) (a n : ℕ) → ((t : ℕ) → a ≤ t → p t ≡ q t) → count_by p (range_with_len a n) ≡ count_by q (range_with_len a n)
count_same p q a zero same = refl
count_same p q a (suc n) same =
    sum_by-cons (tally p) a (range_with_len (a + 1) n)
    ∙ ap (λ b. bit b + count_by p (range_with_len (a + 1) n)) (same a (omega arith))
    ∙ ap (λ c. bit (q a) + c) (count_same p q (a + 1) n (λ t above. same t (omega arith)))
    ∙ sym (sum_by-cons (tally q) a (range_with_len (a + 1) n))

-- two tests that differ at one number alone
count_at : (p q : ℕ → Bool) (m a n : ℕ) → a ≤ m → m < a + n → ((t : ℕ) → (t == m) ≡ false → p t ≡ q t)
    → count_by p (range_with_len a n) + bit (q m) ≡ count_by q (range_with_len a n) + bit (p m)
count_at p q m a zero from below alike = absurd (omega arith)
count_at p q m a (suc n) from below alike =
    let first : count_by p (range_with_len a (suc n)) ≡ bit (p a) + count_by p (range_with_len (a + 1) n) = sum_by-cons (tally p) a (range_with_len (a + 1) n) in
    let second : count_by q (range_with_len a (suc n)) ≡ bit (q a) + count_by q (range_with_len (a + 1) n) = sum_by-cons (tally q) a (range_with_len (a + 1) n) in
    elim (cases_eq a m) [
      | inl here ↦
          let rest : count_by p (range_with_len (a + 1) n) ≡ count_by q (range_with_len (a + 1) n) =
          count_same p q (a + 1) n (λ t above. alike t (let other : (t == m) ≡ false = grind (arith, nat_tests) in other)) in
          let one : bit (p a) ≡ bit (p m) = ap (λ t. bit (p t)) here in
          let two : bit (q a) ≡ bit (q m) = ap (λ t. bit (q t)) here in
          omega arith
      | inr elsewhere ↦
          let other : (a == m) ≡ false = grind (arith, nat_tests) in
          let same : bit (p a) ≡ bit (q a) = ap bit (alike a other) in
          let rest : count_by p (range_with_len (a + 1) n) + bit (q m) ≡ count_by q (range_with_len (a + 1) n) + bit (p m) =
          count_at p q m (a + 1) n (let next : a + 1 ≤ m = omega arith in next) (omega arith) alike in
          omega arith
    ]

pub count_of-with : (tags : Tags) (n : ℕ) (slot : Option _) → n < 63
    → count_of (λ t. if t == n then slot else tags t) + bit (is_some (tags n)) ≡ count_of tags + bit (is_some slot)
unfolding count_of
count_of-with tags n slot within =
    let put : is_some (if n == n then slot else tags n) ≡ is_some slot = rw (same_here n) refl in
    count_at (λ t. is_some (if t == n then slot else tags t)) (λ t. is_some (tags t)) n 0 63 (omega arith) (omega arith)
    (λ t other. rw other refl)
    ∙ ap (λ b. count_by (λ t. is_some (tags t)) (range_with_len 0 63) + bit b) put

pub count_of-nothing : (tags : Tags) → ((t : ℕ) → tags t ≡ None) → count_of tags ≡ 0
unfolding count_of
count_of-nothing tags none = count_none (λ t. is_some (tags t)) 0 63 (λ t. ap is_some (none t))
