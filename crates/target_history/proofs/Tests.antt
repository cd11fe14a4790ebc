-- Tests of numbers, and what joins them.
use Rattle.std.proofs.Common.{◌≡◌, ◌⊎◌, ℕ, Bool, true, false, ◌&&◌, ◌||◌, refl, inl, inr, arith}
use Rattle.std.specs.Prelude.{◌==◌}
use Rattle.std.proofs.lemmas.Bool.Decides.{nat_tests}
use Rattle.std.proofs.Math.Dec.{T, eqb_refl}

pub same_here : (n : ℕ) → (n == n) ≡ true
same_here n = by (n == n) (eqb_refl n) where
  by : (b : Bool) → T b → b ≡ true
  by true h = refl
  by false h = absurd h

pub same_number : (k n : ℕ) → (k == n) ≡ true → k ≡ n
same_number k n h = grind (arith, nat_tests)

pub both_same : (c q : ℕ) → ((c == c) && (q == q)) ≡ true
both_same c q = rw (same_here c, same_here q) refl

pub flipped : (c d : ℕ) → (d == c) ≡ false → (c == d) ≡ false
flipped c d h = grind (arith, nat_tests)

pub bool_is : (b : Bool) → (b ≡ true) ⊎ (b ≡ false)
bool_is true = inl refl
bool_is false = inr refl

pub neither : (a b : Bool) → (a || b) ≡ false → (a ≡ false) × (b ≡ false)
neither true b h = cc
neither false b h = (refl, h)

pub either_false : (a b : Bool) → a ≡ false → b ≡ false → (a || b) ≡ false
either_false a b h i = rw (h, i) refl

pub either_true : (a b : Bool) → a ≡ true → (a || b) ≡ true
either_true true b h = refl
either_true false b h = cc

pub other_true : (a b : Bool) → b ≡ true → (a || b) ≡ true
other_true true b h = refl
other_true false b h = h

pub or_false_is : (b : Bool) → (b || false) ≡ true → b ≡ true
or_false_is true h = refl
or_false_is false h = cc

pub both_true : (a b : Bool) → (a && b) ≡ true → (a ≡ true) × (b ≡ true)
both_true true b h = (refl, h)
both_true false b h = cc
