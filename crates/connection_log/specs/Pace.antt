-- How many lines are printed a second.
use Rattle.std.specs.Prelude.{ℕ, ◌+◌, ◌/◌, ◌^◌, ◌-◌, ◌≤◌, ◌==◌, ◌&&◌, Bool, min, nat_lt, List, [], ◌∷◌, if◌then◌else◌}
use Rattle.connection_log.specs.declared.pace.LinePace.{LinePace}

abbrev pub second_of : ℕ → ℕ
second_of micros = micros / 1000000

abbrev pub begun : LinePace
begun = record { second = 0; printed = 0; left_out = 0 }

-- in a later second none was printed yet
abbrev pub brought_to : ℕ → LinePace → LinePace
brought_to micros p =
    if nat_lt p.second (second_of micros) then record p { second = second_of micros; printed = 0 } else p

abbrev pub has_room : LinePace → Bool
has_room p = nat_lt p.printed 100

-- by `few_in_a_second` at most 100 lines pass in a second; a later second begins anew
abbrev pub may_print : ℕ → LinePace → Bool
may_print micros p = has_room (brought_to micros p)

-- so many lines more are left out
abbrev pub more_left_out : ℕ → LinePace → LinePace
more_left_out lines p = record p { left_out = min (p.left_out + lines) (2 ^ 64 - 1) }

abbrev pub counted : LinePace → LinePace
counted p = if has_room p then record p { printed = p.printed + 1 } else more_left_out 1 p

-- after a line was asked for at this time
abbrev pub asked : ℕ → LinePace → LinePace
asked micros p = counted (brought_to micros p)

-- after it was told how many were left out
abbrev pub told : LinePace → LinePace
told p = record p { left_out = 0 }

-- each time is at least the one before, and the first at least this one
abbrev pub NeverFalls : ℕ → List ℕ → Type 0
NeverFalls from [] = Unit {0}
NeverFalls from (time ∷ times) = (from ≤ time) × NeverFalls time times

-- how many of the lines asked for at these times are printed in that second
abbrev pub let_through : ℕ → LinePace → List ℕ → ℕ
let_through second p [] = 0
let_through second p (time ∷ times) =
    (if may_print time p && (second_of time == second) then 1 else 0) + let_through second (asked time p) times
