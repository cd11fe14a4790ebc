-- What slots hold, and what is left of a list.
use Rattle.std.proofs.Common.{◌≡◌, ℕ, ◌-◌, ◌≤◌, Bool, Option, Some, None, List, [], ◌∷◌, length, map, filter, drop, take, Bor, refl, arith, inl, inr}
use Rattle.std.proofs.lemmas.Bool.{cases_Bool}
use Rattle.std.proofs.lemmas.List.{length-drop, take_all}
use Rattle.std.specs.Option.{option_copied}
use Rattle.discovery_view.specs.Order.{entries_of}

pub entries_from : {T : Type 0} (slots : List (Option (Bor T))) (others : List T) → map option_copied slots ≡ map (λ y. Some y) others → entries_of slots ≡ others
entries_from [] [] same = refl
entries_from [] (y ∷ others) same = absurd (cc)
entries_from (slot ∷ slots) [] same = absurd (cc)
entries_from (None ∷ slots) (y ∷ others) same = absurd (cc)
entries_from (Some x ∷ slots) (y ∷ others) same =
    let head : x.now ≡ y = cc in
    let tail : map option_copied slots ≡ map (λ z. Some z) others = cc in
    rw (head, entries_from slots others tail) refl

-- a slice to the end of a list
pub rest_of : {X : Type 0} (i : ℕ) (xs : List X) → take (length xs - i) (drop i xs) ≡ drop i xs
rest_of i xs = take_all (length xs - i) (drop i xs) (omega (arith, length-drop i xs))

pub filter_bound : {X : Type 0} (test : X → Bool) (xs : List X) → length (filter test xs) ≤ length xs
filter_bound test [] = omega arith
filter_bound test (x ∷ xs) =
    elim (cases_Bool (test x)) [
      | inl passes ↦ rw passes (omega (arith, filter_bound test xs))
      | inr fails ↦ rw fails (omega (arith, filter_bound test xs))
    ]
