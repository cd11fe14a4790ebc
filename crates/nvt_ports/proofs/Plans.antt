-- Whom a look tries at each place.
use Rattle.std.proofs.Common.{◌≡◌, ℕ, zero, suc, ◌+◌, ◌-◌, ◌<◌, ◌≤◌, List, [], ◌∷◌, ◌++◌, Some, length, map, get_or, ap, ◌∙◌, arith, length-append}
use Rattle.std.specs.Prelude.{slice_get}
use Rattle.std.specs.List.{range_with_len}
use Rattle.std.proofs.lemmas.List.{get_or_append_left, get_or-append_right, length-map}
use Rattle.std.proofs.lemmas.List.FromFn.{get_or-map-range_with_len, length-range_with_len}
use Rattle.std.proofs.lemmas.Option.{slice_get-get_or}
use Rattle.nvt_ports.specs.declared.turn_order.Lately.{Lately}
use Rattle.nvt_ports.specs.Lately.{Order, behind, due, number_in, plan}

abbrev of_round : Order → List ℕ
of_round o = map (behind o.last) (range_with_len 1 (due o))

length-of_round : (o : Order) → length (of_round o) ≡ due o
length-of_round o = length-map (range_with_len 1 (due o)) (behind o.last) ∙ length-range_with_len 1 (due o)

pub length-plan : (o : Order) → length (plan o) ≡ due o + length o.lately
length-plan o =
    length-append (of_round o) (map number_in o.lately)
    ∙ ap (λ n. n + length (map number_in o.lately)) (length-of_round o)
    ∙ ap (λ n. due o + n) (length-map o.lately number_in)

pub plan_of_round : (o : Order) (place : ℕ) → place < due o → slice_get (plan o) place ≡ Some (behind o.last (place + 1))
plan_of_round o place within =
    slice_get-get_or (plan o) place 0 (omega (arith, length-plan o))
    ∙ ap Some (
    get_or_append_left (of_round o) (map number_in o.lately) 0 place (omega (arith, length-of_round o))
    ∙ get_or-map-range_with_len (behind o.last) 1 (due o) place (place + 1) 0 within (omega arith)
    )

slice_get-append_right : {X : Type 0} (xs ys : List X) (i : ℕ) → length xs ≤ i → slice_get (xs ++ ys) i ≡ slice_get ys (i - length xs)
slice_get-append_right [] ys i past = ap (slice_get ys) (omega arith)
slice_get-append_right (x ∷ xs) ys zero past = absurd (omega arith)
slice_get-append_right (x ∷ xs) ys (suc i) past = slice_get-append_right xs ys i (omega arith) ∙ ap (slice_get ys) (omega arith)

pub plan_of_lately : (o : Order) (place : ℕ) → due o ≤ place → slice_get (plan o) place ≡ slice_get (map number_in o.lately) (place - due o)
plan_of_lately o place past =
    slice_get-append_right (of_round o) (map number_in o.lately) place (omega (arith, length-of_round o))
    ∙ ap (λ n. slice_get (map number_in o.lately) (place - n)) (length-of_round o)

pub planned_of_lately : (o : Order) (place : ℕ) → due o ≤ place → get_or (plan o) place 0 ≡ get_or (map number_in o.lately) (place - due o) 0
planned_of_lately o place past = get_or-append_right (of_round o) (map number_in o.lately) (due o) place 0 (length-of_round o) past

pub same_order : (a b : List Lately) (m n j k : ℕ) → a ≡ b → m ≡ n → j ≡ k
    → let o : Order = record { lately = a; last = m; credit = j } in o ≡ record { lately = b; last = n; credit = k }
same_order a b m n j k same-lately same-last same-credit = cc
