-- What is there together.
use Rattle.std.proofs.Common.{◌≡◌, Result, Ok, Err, IfOk, MatchResult, sym, ap, ◌∙◌}

abbrev value_or : {X E : Type 0} → X → Result X E → X
value_or d (Ok x) = x
value_or d (Err error) = d

-- both, where the second is there
abbrev pub AreBoth : {A B E : Type 0} → A → Result B E → Result (A × B) E → Type 0
AreBoth first second result = MatchResult second (λ b. result ≡ Ok (first, b)) (λ error. result ≡ Err error)

pub both_there : {A B E : Type 0} (first a : A) (second : Result B E) (b : B) (result : Result (A × B) E)
    → AreBoth first second result → result ≡ Ok (a, b) → (first ≡ a) × (second ≡ Ok b)
both_there first a (Ok there) b result h is =
    let same = ap (value_or (first, there)) (sym h ∙ is) in
    (ap (λ p. p.0) same, ap (λ p. Ok p.1) same)
both_there first a (Err error) b result h is = let clash = sym h ∙ is in cc

-- all three, where the third is there with both
pub all_there : {A B C E : Type 0} (first a x : A) (second : Result B E) (b y : B) (third : Result C E) (z : C)
    (two : Result (A × B) E) (three : Result ((A × B) × C) E) → AreBoth first second two → two ≡ Ok (a, b)
    → AreBoth (a, b) third three → three ≡ Ok ((x, y), z) → (first ≡ x) × (second ≡ Ok y) × (third ≡ Ok z)
all_there first a x second b y third z two three are_two two_is are_three three_is =
    let two = both_there first a second b two are_two two_is in
    let three = both_there (a, b) (x, y) third z three are_three three_is in
    (two.0 ∙ ap (λ p. p.0) three.0, two.1 ∙ ap (λ p. Ok p.1) three.0, three.1)

-- what holds of the second beside the first holds of both
pub both_ok : {A B E : Type 0} (first : A) (second : Result B E) (result : Result (A × B) E) (P : A → B → Type 0)
    → AreBoth first second result → IfOk second (P first) → IfOk result (λ p. P p.0 p.1)
both_ok first (Ok there) result P h holds = rw h holds
both_ok first (Err error) result P h holds = rw h tt

-- what follows from two facts of it, where it is there
pub ok_both : {A E : Type 0} (result : Result A E) (P Q R : A → Type 0) → ((a : A) → P a → Q a → R a) → IfOk result P → IfOk result Q → IfOk result R
ok_both (Ok a) P Q R both p q = both a p q
ok_both (Err error) P Q R both p q = tt
