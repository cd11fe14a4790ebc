-- A response that is told is the answer to the Connect.
use Rattle.std.proofs.Common.{◌≡◌, ℕ, zero, suc, ◌+◌, ◌-◌, ◌<◌, ◌^◌, Bool, true, false, inl, inr, List, [], ◌∷◌, ◌++◌, Some, length, replicate, refl, sym, ap, subst, ◌∙◌, arith, add-one}
use Rattle.std.specs.Prelude.{slice_get}
use Rattle.std.proofs.lemmas.Bool.{cases_lt, ne_eqb}
use Rattle.connection_log.specs.declared.stage.Stage.{Stage}
use Rattle.connection_log.specs.declared.stage.Stage.TheVariants.{Before, Waits, Over}
use Rattle.connection_log.specs.Conversation.{AnswersAreTheirs, Event, FirstIsTold, InTurn, answered_count, answers, asked, asks, sends, stage_after}
use Rattle.connection_log.specs.Stages.{after_ask, after_response}

stays_over : (events : List Event) → stage_after Over events ≡ Over
stays_over [] = refl
stays_over (sends ∷ events) = stays_over events
stays_over (asks connect ∷ events) = stays_over events
stays_over (answers succeeded ∷ events) = stays_over events

-- the answer to the Connect itself, behind which bytes were passed over
last_passed : (succeeded : Bool) → after_response succeeded (Waits 0 true) ≡ Over
last_passed true = refl
last_passed false = refl

one_less : (succeeded passed : Bool) (n : ℕ) → after_response succeeded (Waits (suc n) passed) ≡ Waits n passed
one_less succeeded passed n = rw (ne_eqb (suc n) 0 (omega arith)) (ap (λ (m : ℕ). Waits m passed) (omega arith))

-- where bytes were passed over, as many more answers come as were ahead
all_ahead : (events : List Event) (ahead : ℕ) (passed : Bool) → stage_after (Waits ahead true) events ≡ Waits 0 passed
    → answered_count events ≡ ahead
all_ahead [] ahead passed is = cc
all_ahead (sends ∷ events) ahead passed is = all_ahead events ahead passed is
all_ahead (asks connect ∷ events) ahead passed is = all_ahead events ahead passed is
all_ahead (answers succeeded ∷ events) zero passed is = absurd (cc (is, ap (λ (s : Stage). stage_after s events) (last_passed succeeded), stays_over events))
all_ahead (answers succeeded ∷ events) (suc n) passed is =
    let rest : answered_count events ≡ n =
    all_ahead events n passed (sym (ap (λ (s : Stage). stage_after s events) (one_less succeeded true n)) ∙ is)
    in
    omega (arith, rest)

at_end : (ahead : ℕ) (rest : List Bool) → slice_get (replicate ahead false ++ true ∷ rest) ahead ≡ Some true
at_end zero rest = refl
at_end (suc n) rest = at_end n rest

in_queue : (ahead k : ℕ) (rest : List Bool) → k < ahead → slice_get (replicate ahead false ++ rest) k ≡ Some false
in_queue zero k rest lt = absurd (omega arith)
in_queue (suc n) zero rest lt = refl
in_queue (suc n) (suc k) rest lt = in_queue n k rest (omega arith)

one_more : (ahead : ℕ) (rest : List Bool) → replicate (ahead + 1) false ++ rest ≡ replicate ahead false ++ false ∷ rest
one_more zero rest = refl
one_more (suc n) rest =
    let same : suc n + 1 ≡ suc (n + 1) = omega arith in
    ap (λ (m : ℕ). replicate m false ++ rest) same ∙ ap (λ (l : List Bool). false ∷ l) (one_more n rest)

next : (x : Bool) (xs : List Bool) (k : ℕ) → slice_get (x ∷ xs) (k + 1) ≡ slice_get xs k
next x xs k = rw add-one refl

-- a Connect waits, and nothing was passed over, or none does
abbrev open_stage : Bool → ℕ → Stage
open_stage true ahead = Waits ahead false
open_stage false ahead = Before ahead

abbrev last : Bool → List Bool → List Bool
last true rest = true ∷ rest
last false rest = rest

abbrev waiting : Bool → ℕ → ℕ
waiting true ahead = ahead + 1
waiting false ahead = ahead

-- the commands that wait, and those that come
abbrev queue : Bool → ℕ → List Event → List Bool
queue waits ahead events = replicate ahead false ++ last waits (asked events)

few_more : (ahead : ℕ) → ahead + 1 < 2 ^ 32 → after_ask false ahead ≡ Before (ahead + 1)
few_more ahead few = ap Before (omega arith)

its_own : (events : List Event) (waits : Bool) (ahead : ℕ) (passed : Bool) → ahead + length (asked events) < 2 ^ 32
    → InTurn (waiting waits ahead) events → stage_after (open_stage waits ahead) events ≡ Waits 0 passed
    → slice_get (queue waits ahead events) (answered_count events) ≡ Some true
its_own [] false ahead passed few turn is = absurd (cc)
its_own [] true ahead passed few turn is = let none : ahead ≡ 0 = cc in rw none refl
its_own (sends ∷ events) false ahead passed few turn is = its_own events false ahead passed few turn is
its_own (sends ∷ events) true ahead passed few turn is = rw (all_ahead events ahead passed is) (at_end ahead (asked events))
its_own (asks connect ∷ events) true ahead passed few turn is =
    rw (all_ahead events ahead passed is) (at_end ahead (connect ∷ asked events))
its_own (asks true ∷ events) false ahead passed few turn is = its_own events true ahead passed (omega arith) turn is
its_own (asks false ∷ events) false ahead passed few turn is =
    subst (λ (l : List Bool). slice_get l (answered_count events) ≡ Some true) (one_more ahead (asked events))
    (its_own events false (ahead + 1) passed (omega arith) turn
    (sym (ap (λ (s : Stage). stage_after s events) (few_more ahead (omega arith))) ∙ is))
its_own (answers succeeded ∷ events) false zero passed few turn is = absurd (omega (arith, turn.0))
its_own (answers succeeded ∷ events) false (suc n) passed few turn is =
    let less : suc n - 1 ≡ n = omega arith in
    next false (replicate n false ++ asked events) (answered_count events)
    ∙ its_own events false n passed (omega arith) (subst (λ (m : ℕ). InTurn m events) less turn.1)
    (sym (ap (λ (m : ℕ). stage_after (Before m) events) less) ∙ is)
its_own (answers succeeded ∷ events) true (suc n) passed few turn is =
    let less : suc n + 1 - 1 ≡ n + 1 = omega arith in
    next false (replicate n false ++ true ∷ asked events) (answered_count events)
    ∙ its_own events true n passed (omega arith) (subst (λ (m : ℕ). InTurn m events) less turn.1)
    (sym (ap (λ (s : Stage). stage_after s events) (one_less succeeded false n)) ∙ is)
its_own (answers true ∷ events) true zero passed few turn is = absurd (cc (is, stays_over events))
its_own (answers false ∷ events) true zero passed few turn is =
    next true (asked events) (answered_count events) ∙ its_own events false zero passed few turn.1 is

-- as many answers come as were ahead
passed_to : (events : List Event) (ahead : ℕ) → answered_count events ≡ ahead
    → stage_after (Waits ahead true) events ≡ Waits 0 true
passed_to [] ahead is = ap (λ (n : ℕ). Waits n true) (sym is)
passed_to (sends ∷ events) ahead is = passed_to events ahead is
passed_to (asks connect ∷ events) ahead is = passed_to events ahead is
passed_to (answers succeeded ∷ events) zero is = absurd (omega arith)
passed_to (answers succeeded ∷ events) (suc n) is =
    ap (λ (s : Stage). stage_after s events) (one_less succeeded true n) ∙ passed_to events n (omega arith)

-- the number of the first Connect is that of the next answer
at_first_connect : (ahead count : ℕ) (rest : List Bool) → slice_get (replicate ahead false ++ true ∷ rest) count ≡ Some true
    → ((k : ℕ) → k < count → slice_get (replicate ahead false ++ true ∷ rest) k ≡ Some false) → count ≡ ahead
at_first_connect ahead count rest there none =
    elim (cases_lt count ahead) [
      | inl early ↦ absurd (cc (there, in_queue ahead count (true ∷ rest) early))
      | inr le ↦ elim (cases_lt ahead count) [
        | inl late ↦ absurd (cc (none ahead late, at_end ahead rest))
        | inr ge ↦ omega arith
      ]
    ]

abbrev pub WillBeTold : Stage → List Event → Type 0
WillBeTold s events = (passed : Bool) × (stage_after s events ≡ Waits 0 passed)

first_told : (events : List Event) (waits : Bool) (ahead : ℕ) → ahead + length (asked events) < 2 ^ 32
    → InTurn (waiting waits ahead) events
    → slice_get (queue waits ahead events) (answered_count events) ≡ Some true
    → ((k : ℕ) → k < answered_count events → slice_get (queue waits ahead events) k ≡ Some false)
    → WillBeTold (open_stage waits ahead) events
first_told [] false zero few turn there none = absurd (cc)
first_told [] false (suc n) few turn there none = absurd (cc)
first_told [] true zero few turn there none = (false, refl)
first_told [] true (suc n) few turn there none = absurd (cc)
first_told (sends ∷ events) false ahead few turn there none = first_told events false ahead few turn there none
first_told (sends ∷ events) true ahead few turn there none =
    (true, passed_to events ahead (at_first_connect ahead (answered_count events) (asked events) there none))
first_told (asks connect ∷ events) true ahead few turn there none =
    (true, passed_to events ahead (at_first_connect ahead (answered_count events) (connect ∷ asked events) there none))
first_told (asks true ∷ events) false ahead few turn there none = first_told events true ahead (omega arith) turn there none
first_told (asks false ∷ events) false ahead few turn there none =
    let same = sym (one_more ahead (asked events)) in
    subst (λ (s : Stage). WillBeTold s events) (sym (few_more ahead (omega arith)))
    (first_told events false (ahead + 1) (omega arith) turn
    (subst (λ (l : List Bool). slice_get l (answered_count events) ≡ Some true) same there)
    (λ k less. subst (λ (l : List Bool). slice_get l k ≡ Some false) same (none k less)))
first_told (answers succeeded ∷ events) false zero few turn there none = absurd (omega (arith, turn.0))
first_told (answers succeeded ∷ events) false (suc n) few turn there none =
    let less : suc n - 1 ≡ n = omega arith in
    let after = λ (k : ℕ). next false (replicate n false ++ asked events) k in
    subst (λ (m : ℕ). WillBeTold (Before m) events) (sym less)
    (first_told events false n (omega arith) (subst (λ (m : ℕ). InTurn m events) less turn.1)
    (sym (after (answered_count events)) ∙ there)
    (λ k before. sym (after k) ∙ none (k + 1) (omega arith)))
first_told (answers succeeded ∷ events) true (suc n) few turn there none =
    let less : suc n + 1 - 1 ≡ n + 1 = omega arith in
    let after = λ (k : ℕ). next false (replicate n false ++ true ∷ asked events) k in
    subst (λ (s : Stage). WillBeTold s events) (sym (one_less succeeded false n))
    (first_told events true n (omega arith) (subst (λ (m : ℕ). InTurn m events) less turn.1)
    (sym (after (answered_count events)) ∙ there)
    (λ k before. sym (after k) ∙ none (k + 1) (omega arith)))
first_told (answers succeeded ∷ events) true zero few turn there none = absurd (cc (none 0 (omega arith)))

pub answers_are_theirs : AnswersAreTheirs
answers_are_theirs events passed turn few is = its_own events false 0 passed (omega arith) turn is

pub first_is_told : FirstIsTold
first_is_told events turn few there none = first_told events false 0 (omega arith) turn there none
