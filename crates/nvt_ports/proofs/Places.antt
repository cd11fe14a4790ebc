-- Where a speaker stands among those who spoke lately, once others were tried or spoke.
use Rattle.std.proofs.Common.{◌≡◌, ℕ, zero, suc, ◌+◌, ◌<◌, ◌≤◌, true, false, cond, List, [], ◌∷◌, ◌++◌, length, map, get_or, Some, refl, ap, inl, inr, arith, add-one}
use Rattle.std.specs.Prelude.{nat_eq, nat_lt, slice_get}
use Rattle.std.proofs.lemmas.Bool.{cases_Bool, eq-eqb, eqb-true, ltb-true}
use Rattle.std.proofs.lemmas.List.{length_push}
use Rattle.std.proofs.lemmas.Bool.Decides.{nat_tests}
use Rattle.nvt_ports.specs.declared.turn_order.Lately.{Lately}
use Rattle.nvt_ports.specs.Lately.{number_in, tired, with_heard, with_last, without}
use Rattle.nvt_ports.specs.Speaker.{patience_of, speaker_of}
use Rattle.nvt_ports.specs.Waiting.{is_among, place_of}

pub among-without : (s f : ℕ) (xs : List Lately) → (s ≡ f → ⊥) → is_among s (without f xs) ≡ is_among s xs
among-without s f [] other = refl
among-without s f (x ∷ xs) other =
    let more : is_among s (without f xs) ≡ is_among s xs = among-without s f xs other in
    elim (cases_Bool (nat_eq x.number f)) [
      | inl is ↦ let here : nat_eq x.number s ≡ false = grind (arith, nat_tests, is, other) in rw (is, here) more
      | inr differs ↦ rw differs (ap (λ b. cond (nat_eq x.number s) true b) more)
    ]

pub place-without : (s f : ℕ) (xs : List Lately) → (s ≡ f → ⊥) → place_of s (without f xs) ≤ place_of s xs
place-without s f [] other = omega arith
place-without s f (x ∷ xs) other =
    let more : place_of s (without f xs) ≤ place_of s xs = place-without s f xs other in
    elim (cases_Bool (nat_eq x.number f)) [
      | inl is ↦ let here : nat_eq x.number s ≡ false = grind (arith, nat_tests, is, other) in rw (is, here) (omega arith)
      | inr differs ↦ elim (cases_Bool (nat_eq x.number s)) [ inl this ↦ rw (differs, this) (omega arith) | inr that ↦ rw (differs, that) (omega arith) ]
    ]

pub among-tired-false : (n s : ℕ) (xs : List Lately) → is_among s xs ≡ false → is_among s (tired n xs) ≡ false
among-tired-false zero s xs none = none
among-tired-false (suc n) s [] none = refl
among-tired-false (suc n) s (x ∷ xs) none =
    elim (cases_Bool (nat_eq x.number s)) [
      | inl this ↦ let no : true ≡ false = rw this at none in cc
      | inr that ↦
          let more : is_among s (tired n xs) ≡ false = among-tired-false n s xs (rw that at none) in
          elim (cases_Bool (nat_lt x.patience 2)) [ inl over ↦ rw over more | inr left ↦ rw (left, that) more ]
    ]

pub among-tired : (n s : ℕ) (xs : List Lately) → n ≤ place_of s xs → is_among s (tired n xs) ≡ is_among s xs
among-tired zero s xs ahead = refl
among-tired (suc n) s [] ahead = refl
among-tired (suc n) s (x ∷ xs) ahead =
    elim (cases_Bool (nat_eq x.number s)) [
      | inl this ↦ let no : suc n ≤ 0 = rw this at ahead in absurd (omega arith)
      | inr that ↦
          let within : suc n ≤ place_of s xs + 1 = rw that at ahead in
          let more : is_among s (tired n xs) ≡ is_among s xs = among-tired n s xs (omega arith) in
          elim (cases_Bool (nat_lt x.patience 2)) [ inl over ↦ rw (over, that) more | inr left ↦ rw (left, that) more ]
    ]

pub place-tired : (n s : ℕ) (xs : List Lately) → n ≤ place_of s xs → place_of s (tired n xs) ≤ place_of s xs
place-tired zero s xs ahead = omega arith
place-tired (suc n) s [] ahead = omega arith
place-tired (suc n) s (x ∷ xs) ahead =
    elim (cases_Bool (nat_eq x.number s)) [
      | inl this ↦ let no : suc n ≤ 0 = rw this at ahead in absurd (omega arith)
      | inr that ↦
          let within : suc n ≤ place_of s xs + 1 = rw that at ahead in
          let more : place_of s (tired n xs) ≤ place_of s xs = place-tired n s xs (omega arith) in
          elim (cases_Bool (nat_lt x.patience 2)) [ inl over ↦ rw (over, that) (omega arith) | inr left ↦ rw (left, that) (omega arith) ]
    ]

-- the one behind those that were tried in vain spoke, and no longer stands there
pub place-spoke : (n s f : ℕ) (xs : List Lately) → (s ≡ f → ⊥) → n < place_of s xs → get_or (map number_in xs) n 0 ≡ f
    → place_of s (without f (tired n xs)) + 1 ≤ place_of s xs
place-spoke n s f [] other ahead spoke = omega arith
place-spoke zero s f (x ∷ xs) other ahead spoke =
    let is : nat_eq x.number f ≡ true = eq-eqb x.number f spoke in
    let that : nat_eq x.number s ≡ false = grind (arith, nat_tests, is, other) in
    let more : place_of s (without f xs) ≤ place_of s xs = place-without s f xs other in
    rw (is, that) (omega arith)
place-spoke (suc n) s f (x ∷ xs) other ahead spoke =
    elim (cases_Bool (nat_eq x.number s)) [
      | inl this ↦ let no : suc n < 0 = rw this at ahead in absurd (omega arith)
      | inr that ↦
          let within : suc n < place_of s xs + 1 = rw that at ahead in
          let more : place_of s (without f (tired n xs)) + 1 ≤ place_of s xs = place-spoke n s f xs other (omega arith) spoke in
          elim (cases_Bool (nat_lt x.patience 2)) [
            | inl over ↦ rw (over, that) (omega arith)
            | inr left ↦
                elim (cases_Bool (nat_eq x.number f)) [ inl is ↦ rw (left, is, that) (omega arith) | inr differs ↦ rw (left, differs, that) (omega arith) ]
          ]
    ]

among-push : (s : ℕ) (y : Lately) (xs : List Lately) → (s ≡ y.number → ⊥) → is_among s (xs ++ y ∷ []) ≡ is_among s xs
among-push s y [] other = let that : nat_eq y.number s ≡ false = grind (arith, nat_tests, other) in rw that refl
among-push s y (x ∷ xs) other = ap (λ b. cond (nat_eq x.number s) true b) (among-push s y xs other)

place-push : (s : ℕ) (y : Lately) (xs : List Lately) → is_among s xs ≡ true → place_of s (xs ++ y ∷ []) ≡ place_of s xs
place-push s y [] among = let no : false ≡ true = among in cc
place-push s y (x ∷ xs) among =
    elim (cases_Bool (nat_eq x.number s)) [
      | inl this ↦ rw this refl
      | inr that ↦ let more : place_of s (xs ++ y ∷ []) ≡ place_of s xs = place-push s y xs (rw that at among) in rw that (omega arith)
    ]

-- one that spoke does not come before those that stand there
pub among-last : (s f : ℕ) (xs : List Lately) → (s ≡ f → ⊥) → is_among s (with_last f xs) ≡ is_among s xs
among-last s f xs other =
    elim (cases_Bool (nat_lt (length xs) 97)) [
      | inl room ↦ rw room (among-push s (record { number = f; patience = patience_of (speaker_of f) }) xs other)
      | inr full ↦ rw full refl
    ]

pub place-last : (s f : ℕ) (xs : List Lately) → is_among s xs ≡ true → place_of s (with_last f xs) ≡ place_of s xs
place-last s f xs among =
    elim (cases_Bool (nat_lt (length xs) 97)) [
      | inl room ↦ rw room (place-push s (record { number = f; patience = patience_of (speaker_of f) }) xs among)
      | inr full ↦ rw full refl
    ]

pub place_within : (s : ℕ) (xs : List Lately) → is_among s xs ≡ true → place_of s xs < length xs
place_within s [] among = let no : false ≡ true = among in cc
place_within s (x ∷ xs) among =
    elim (cases_Bool (nat_eq x.number s)) [
      | inl this ↦ rw this (omega arith)
      | inr that ↦ let more : place_of s xs < length xs = place_within s xs (rw that at among) in rw that (omega arith)
    ]

pub stands_there : (s : ℕ) (xs : List Lately) → is_among s xs ≡ true → slice_get (map number_in xs) (place_of s xs) ≡ Some s
stands_there s [] among = let no : false ≡ true = among in cc
stands_there s (x ∷ xs) among =
    elim (cases_Bool (nat_eq x.number s)) [
      | inl this ↦ rw this (ap Some (eqb-true x.number s this))
      | inr that ↦ let more : slice_get (map number_in xs) (place_of s xs) ≡ Some s = stands_there s xs (rw that at among) in rw (that, add-one) more
    ]

pub length-tired : (n : ℕ) (xs : List Lately) → length (tired n xs) ≤ length xs
length-tired zero xs = omega arith
length-tired (suc n) [] = omega arith
length-tired (suc n) (x ∷ xs) =
    let more : length (tired n xs) ≤ length xs = length-tired n xs in
    elim (cases_Bool (nat_lt x.patience 2)) [ inl over ↦ rw over (omega arith) | inr left ↦ rw left (omega arith) ]

length-without : (f : ℕ) (xs : List Lately) → length (without f xs) ≤ length xs
length-without f [] = omega arith
length-without f (x ∷ xs) =
    let more : length (without f xs) ≤ length xs = length-without f xs in
    elim (cases_Bool (nat_eq x.number f)) [ inl is ↦ rw is (omega arith) | inr differs ↦ rw differs (omega arith) ]

pub length-with_heard : (f : ℕ) (xs : List Lately) → length xs ≤ 97 → length (with_heard f xs) ≤ 97
length-with_heard f xs few =
    let less : length (without f xs) ≤ length xs = length-without f xs in
    elim (cases_Bool (nat_lt (length (without f xs)) 97)) [
      | inl room ↦ rw room (omega (arith, ltb-true (length (without f xs)) 97 room, length_push (without f xs) (record { number = f; patience = patience_of (speaker_of f) })))
      | inr full ↦ rw full (omega arith)
    ]
