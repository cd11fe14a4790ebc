-- In which order sockets are tried, and what a look leaves of it. A speaker is told by its number.
use Rattle.std.specs.Prelude.{◌≡◌, ◌≤◌, ◌<◌, ℕ, zero, suc, ◌+◌, ◌-◌, ◌*◌, ◌/◌, ◌%◌, List, [], ◌∷◌, ◌++◌, filter, length, map, min, nat_eq, nat_lt, not, slice_index, if◌then◌else◌}
use Rattle.std.specs.List.{range_with_len}
use Rattle.nvt_ports.specs.declared.turn_order.Lately.{Lately}
use Rattle.nvt_ports.specs.declared.turn_order.LookOutcome.{LookOutcome}
use Rattle.nvt_ports.specs.declared.turn_order.LookOutcome.TheVariants.{Found, Vain, Rests}
use Rattle.nvt_ports.specs.Speaker.{speaker_of, patience_of}

-- those who spoke lately, each with how often it is still tried in vain; whom the round of all came to last; and how
-- many looks no try of the round was for yet
pub record Order : Type 0 where
  pub lately : List Lately
  pub last : ℕ
  pub credit : ℕ

-- the round begins with slot 0
abbrev pub at_first : Order
at_first = record { lately = []; last = 96; credit = 0 }

-- the one that stands so many behind this one, in the round of 97
abbrev pub behind : ℕ → ℕ → ℕ
behind number count = (number + count) % 97

-- how many of the round are tried in this look: one for four looks
abbrev pub due : Order → ℕ
due o = o.credit / 4

abbrev pub number_in : Lately → ℕ
number_in lately = lately.number

-- whom this look tries, in this order: the next of the round, and then those who spoke lately
abbrev pub plan : Order → List ℕ
plan o = map (behind o.last) (range_with_len 1 (due o)) ++ map number_in o.lately

-- so many were tried in vain, from the first on: each loses patience, and counts as silent once that is over
abbrev pub tired : ℕ → List Lately → List Lately
tired zero list = list
tired (suc count) [] = []
tired (suc count) (x ∷ list) =
    if nat_lt x.patience 2 then tired count list else record x { patience = x.patience - 1 } ∷ tired count list

abbrev pub without : ℕ → List Lately → List Lately
without number list = filter (λ lately. not (nat_eq lately.number number)) list

abbrev pub with_last : ℕ → List Lately → List Lately
with_last number list =
    if nat_lt (length list) 97
    then list ++ record { number = number; patience = patience_of (speaker_of number) } ∷ []
    else list

-- this one spoke: it goes behind the others, with new patience
abbrev pub with_heard : ℕ → List Lately → List Lately
with_heard number list = with_last number (without number list)

-- the one that was tried last, of so many
abbrev pub last_tried : ℕ → Order → ℕ
last_tried tried o = slice_index (plan o) (tried - 1)

-- how many of the tries were of the round
abbrev pub tried_in_round : ℕ → Order → ℕ
tried_in_round tried o = min tried (due o)

-- The others were of those who spoke lately. Before a pause all count as silent: behind it all are tried.
abbrev pub lately_after : ℕ → LookOutcome → Order → List Lately
lately_after tried Found o = with_heard (last_tried tried o) (tired (tried - 1 - due o) o.lately)
lately_after tried Vain o = tired (tried - due o) o.lately
lately_after tried Rests o = []

-- after a pause all 97 are due
abbrev pub credit_after : ℕ → LookOutcome → Order → ℕ
credit_after tried Found o = o.credit + 1 - 4 * tried_in_round tried o
credit_after tried Vain o = o.credit + 1 - 4 * tried_in_round tried o
credit_after tried Rests o = 388

abbrev pub after_look : ℕ → LookOutcome → Order → Order
after_look tried outcome o = record {
  lately = lately_after tried outcome o;
  last = behind o.last (tried_in_round tried o);
  credit = credit_after tried outcome o;
}

-- all in vain, or all but the last, which had something
abbrev pub CanBeTried : ℕ → LookOutcome → Order → Type 0
CanBeTried tried Found o = (0 < tried) × (tried ≤ length (plan o))
CanBeTried tried Vain o = tried ≡ length (plan o)
CanBeTried tried Rests o = tried ≡ length (plan o)
