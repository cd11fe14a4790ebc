-- Sets of connections, bit by bit.
use Rattle.std.proofs.Common.{◌≡◌, ◌≢◌, ℕ, zero, suc, ◌+◌, ◌-◌, ◌*◌, ◌/◌, ◌%◌, ◌^◌, ◌<◌, ◌≤◌, min, max, mod-lt, zero-lt-suc, ◌||◌, true, false, bit_and, bit_or, pow-add, ap, refl, sym, ◌∙◌, inl, inr, arith}
use Rattle.std.proofs.Math.Nat.{div-div-eq-div-mul}
use Rattle.std.specs.Prelude.{◌==◌}
use Rattle.std.proofs.lemmas.Bool.{cases_eq, cases_lt}
use Rattle.std.proofs.lemmas.Bool.Decides.{nat_tests}
use Rattle.std.proofs.lemmas.Nat.Bits.{bit_at-trailing_zeros, bit_at-zero, bit_at_above, bit_at_and, bit_at_clear_other, bit_at_clear_same, bit_at_or, bit_at_set_other, bit_at_set_same}
use Rattle.std.specs.Int.{bit_at, bit_not, trailing_zeros, w64}
use Rattle.nvt_serve.specs.Sets.{IsFirst, Joins, SetsBit, is_in}

-- no bit is set in 0
pub none_in : (k : ℕ) → is_in 0 k ≡ false
none_in k = ap (λ b. b == 1) (bit_at-zero k)

-- nor past the end
pub past_end : (bits k : ℕ) → bits < 2 ^ 64 → 64 ≤ k → is_in bits k ≡ false
past_end bits k fits past = ap (λ b. b == 1) (bit_at_above bits 64 k fits past)

-- ---- one is put in, or taken out

pub adds : (bits k : ℕ) → k < 64 → SetsBit k true bits (bit_or bits (1 * 2 ^ k % 2 ^ 64))
adds bits k within = λ j.
    elim (cases_eq j k) [
      | inl same ↦
          let equal : (j == k) ≡ true = grind (arith, nat_tests) in
          rw equal (ap (λ i. is_in (bit_or bits (1 * 2 ^ k % 2 ^ 64)) i) same ∙ ap (λ b. b == 1) (bit_at_set_same w64 bits k within))
      | inr differs ↦
          let unequal : (j == k) ≡ false = grind (arith, nat_tests) in
          rw unequal (ap (λ b. b == 1) (bit_at_set_other w64 bits k within j differs))
    ]

abbrev without_bit : ℕ → ℕ → ℕ
without_bit bits k = bit_and bits (bit_not w64 (1 * 2 ^ k % 2 ^ 64))

least_none : (a b : ℕ) → a ≡ 0 → min a b ≡ a
least_none a b none = omega (arith, none)

past_stays : (bits k j : ℕ) → bits < 2 ^ 64 → 64 ≤ j → bit_at (without_bit bits k) j ≡ bit_at bits j
past_stays bits k j fits past =
    let none : bit_at bits j ≡ 0 = bit_at_above bits 64 j fits past in
    bit_at_and bits (bit_not w64 (1 * 2 ^ k % 2 ^ 64)) j ∙ least_none (bit_at bits j) (bit_at (bit_not w64 (1 * 2 ^ k % 2 ^ 64)) j) none

other_stays : (bits k j : ℕ) → bits < 2 ^ 64 → k < 64 → j ≢ k → bit_at (without_bit bits k) j ≡ bit_at bits j
other_stays bits k j fits within differs =
    elim (cases_lt j 64) [
      | inl below ↦ bit_at_clear_other w64 bits k within j below differs
      | inr past ↦ past_stays bits k j fits past
    ]

pub removes : (bits k : ℕ) → bits < 2 ^ 64 → k < 64 → SetsBit k false bits (without_bit bits k)
removes bits k fits within = λ j.
    elim (cases_eq j k) [
      | inl same ↦
          let equal : (j == k) ≡ true = grind (arith, nat_tests) in
          rw equal (ap (λ i. is_in (without_bit bits k) i) same ∙ ap (λ b. b == 1) (bit_at_clear_same w64 bits k within))
      | inr differs ↦
          let unequal : (j == k) ≡ false = grind (arith, nat_tests) in
          rw unequal (ap (λ b. b == 1) (other_stays bits k j fits within differs))
    ]

-- ---- those of another set are put in

bit_cases : (P : ℕ → Type 0) → P 0 → P 1 → (x : ℕ) → x < 2 → P x
bit_cases P p q zero h = p
bit_cases P p q (suc zero) h = q
bit_cases P p q (suc (suc r)) h = absurd (omega (arith, h))

bit_of_two : (n i : ℕ) → bit_at n i < 2
bit_of_two n i = mod-lt (n / 2 ^ i) (zero-lt-suc 1)

two_bits : (P : ℕ → ℕ → Type 0) → P 0 0 → P 0 1 → P 1 0 → P 1 1 → (a b i : ℕ) → P (bit_at a i) (bit_at b i)
two_bits P p q r s a b i =
    bit_cases (λ x. P x (bit_at b i)) (bit_cases (P 0) p q (bit_at b i) (bit_of_two b i)) (bit_cases (P 1) r s (bit_at b i) (bit_of_two b i))
    (bit_at a i) (bit_of_two a i)

pub joins : (bits other : ℕ) → Joins other bits (bit_or bits other)
joins bits other = λ j.
    ap (λ n. n == 1) (bit_at_or bits other j) ∙ two_bits (λ x y. (max x y == 1) ≡ ((x == 1) || (y == 1))) refl refl refl refl bits other j

-- ---- the bits from one on

-- a bit of what is left
left_bit : (bits least k : ℕ) → least ≤ k → bit_at (bits / 2 ^ least) (k - least) ≡ bit_at bits k
left_bit bits least k behind =
    let whole : least + (k - least) ≡ k = omega (arith, behind) in
    ap (λ n. n % 2) (div-div-eq-div-mul bits (2 ^ least) (2 ^ (k - least)) ∙ ap (λ m. bits / m) (sym (pow-add 2 least (k - least))))
    ∙ ap (bit_at bits) whole

-- nothing is left
pub none_from : (bits least left : ℕ) → left ≡ bits / 2 ^ least → left ≡ 0 → (k : ℕ) → least ≤ k → is_in bits k ≡ false
none_from bits least left is none k behind =
    ap (λ b. b == 1) (sym (left_bit bits least k behind) ∙ ap (λ n. bit_at n (k - least)) (sym is ∙ none) ∙ bit_at-zero (k - least))

is_within : (bits k : ℕ) → bits < 2 ^ 64 → bit_at bits k ≡ 1 → k < 64
is_within bits k fits found =
    elim (cases_lt k 64) [
      | inl below ↦ below
      | inr past ↦ absurd (omega (arith, found, bit_at_above bits 64 k fits past))
    ]

-- the lowest bit of what is left
pub first_left : (bits least left : ℕ) → bits < 2 ^ 64 → left ≡ bits / 2 ^ least → left < 2 ^ 64 → 0 < left
    → IsFirst least (least + trailing_zeros w64 left) bits
first_left bits least left fits is short some =
    let zeros = bit_at-trailing_zeros w64 left some short in
    by (trailing_zeros w64 left) zeros.1 zeros.2 where
      bit_of : (k : ℕ) → least ≤ k → bit_at bits k ≡ bit_at left (k - least)
      bit_of k behind = sym (left_bit bits least k behind) ∙ ap (λ n. bit_at n (k - least)) (sym is)

      by : (n : ℕ) → bit_at left n ≡ 1 → ((i : ℕ) → i < n → bit_at left i ≡ 0) → IsFirst least (least + n) bits
      by n found below =
          let own : least + n - least ≡ n = omega arith in
          let here : bit_at bits (least + n) ≡ 1 = bit_of (least + n) (omega arith) ∙ ap (bit_at left) own ∙ found in
          record {
            within = is_within bits (least + n) fits here;
            behind = omega arith;
            there = ap (λ b. b == 1) here;
            none = λ j behind ahead. ap (λ b. b == 1) (bit_of j behind ∙ below (j - least) (omega (arith, behind, ahead)));
          }
