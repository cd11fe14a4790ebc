-- How long a speaker may go untried, whatever the others do.
use Rattle.std.specs.Prelude.{◌≡◌, ◌≤◌, ◌<◌, ◌⊎◌, ℕ, ◌+◌, ◌-◌, ◌*◌, Bool, true, false, List, [], ◌∷◌, Some, length, nat_eq, nat_lt, slice_get, if◌then◌else◌}
use Rattle.nvt_ports.specs.declared.turn_order.Lately.{Lately}
use Rattle.nvt_ports.specs.declared.turn_order.LookOutcome.{LookOutcome}
use Rattle.nvt_ports.specs.Lately.{Order, plan, after_look, CanBeTried}

-- what holds of each order of turns
pub record IsInOrder (o : Order) : Type 0 where
  pub few : length o.lately ≤ 97
  pub last : o.last < 97
  pub credit : o.credit ≤ 388

-- it stands at one of the first so many places of the look
abbrev pub IsTried : ℕ → Order → ℕ → Type 0
IsTried tried o number = (place : ℕ) × (place < tried) × (slice_get (plan o) place ≡ Some number)

abbrev pub is_among : ℕ → List Lately → Bool
is_among number [] = false
is_among number (x ∷ list) = if nat_eq x.number number then true else is_among number list

-- how many stand before it
abbrev pub place_of : ℕ → List Lately → ℕ
place_of number [] = 0
place_of number (x ∷ list) = if nat_eq x.number number then 0 else place_of number list + 1

-- how many steps of the round until it comes to this one: from 1 to 97
abbrev pub steps_to : ℕ → ℕ → ℕ
steps_to number last = if nat_lt last number then number - last else number + 97 - last

-- no more looks than this go by until it is tried, since each look that does not try it makes this less. Before one that
-- spoke lately there is one fewer then, or the round spent looks on a try; to a silent one the round came nearer, or it
-- gained a look towards the tries on the way
abbrev pub wait_of : Order → ℕ → ℕ
wait_of o number =
    if is_among number o.lately then 2 * place_of number o.lately + o.credit
    else steps_to number o.last + (4 * steps_to number o.last - o.credit)

-- whatever a look tried and found: it tried this one, or this one's wait is shorter now
abbrev pub IsTriedOrNearer : ℕ → Order → Order → ℕ → Type 0
IsTriedOrNearer tried before after number = IsTried tried before number ⊎ (wait_of after number < wait_of before number)

-- how many a look tried, and what came of it
pub record Look : Type 0 where
  pub tried : ℕ
  pub outcome : LookOutcome

-- looks, one after another, each of the order that the one before it left
abbrev pub AreLooks : Order → List Look → Type 0
AreLooks o [] = Unit {0}
AreLooks o (look ∷ looks) = CanBeTried look.tried look.outcome o × AreLooks (after_look look.tried look.outcome o) looks

-- one of these looks tries it
abbrev pub AnyTries : Order → List Look → ℕ → Type 0
AnyTries o [] number = ⊥
AnyTries o (look ∷ looks) number = IsTried look.tried o number ⊎ AnyTries (after_look look.tried look.outcome o) looks number

abbrev pub WaitsAreShort : Type 0
WaitsAreShort = (o : Order) → IsInOrder o → (number : ℕ) → number < 97 → wait_of o number ≤ 580

-- in 581 looks each speaker is tried, whatever the others do
abbrev pub EachIsTried : Type 0
EachIsTried =
    (o : Order) → IsInOrder o → (looks : List Look) → AreLooks o looks → 580 < length looks
    → (number : ℕ) → number < 97 → AnyTries o looks number
