-- When a slot's host is given up, by all that happened since it connected.
use Rattle.std.specs.Prelude.{ℕ, ◌+◌, ◌≤◌, ◌≡◌, ◌↔◌, ◌⊎◌, Bool, true, false, List, [], ◌∷◌, Option, Some, None, IsSome, IsSomeAnd, unwrap_or}
use Rattle.nvt_ports.specs.declared.tenure.GivenUp.TheVariants.{TookNothing, WithoutConnect}
use Rattle.nvt_ports.specs.declared.tenure.Tenure.{Tenure}
use Rattle.nvt_ports.specs.declared.tenure.TenureStanding.{TenureStanding}
use Rattle.nvt_ports.specs.Tenure.{after_move, after_tick, begun, given_up_at, patience_of}

pub data Happening : Type 0 where
  moved : Happening
  ticked : ℕ → TenureStanding → Happening

-- what is known of a host after all that happened, the latest first
abbrev pub tenure_after : List Happening → Tenure
tenure_after [] = begun
tenure_after (moved ∷ before) = after_move (tenure_after before)
tenure_after (ticked ms standing ∷ before) = after_tick ms standing (tenure_after before)

-- the time of the first tick of all
abbrev pub first_tick : List Happening → Option ℕ
first_tick [] = None
first_tick (moved ∷ before) = first_tick before
first_tick (ticked ms standing ∷ before) = Some (unwrap_or (first_tick before) ms)

-- the time of the last tick, if there is one
abbrev pub last_tick : List Happening → ℕ
last_tick [] = 0
last_tick (moved ∷ before) = last_tick before
last_tick (ticked ms standing ∷ before) = ms

abbrev pub TimesNeverFall : List Happening → Type 0
TimesNeverFall [] = Unit {0}
TimesNeverFall (moved ∷ before) = TimesNeverFall before
TimesNeverFall (ticked ms standing ∷ before) = (last_tick before ≤ ms) × TimesNeverFall before

-- There is a tick at this time, since which nothing moved, and at each tick behind it bytes waited. At it and at each
-- behind it the target had ended the connection, or had not.
abbrev pub TookNothingSince : Bool → ℕ → List Happening → Type 0
TookNothingSince ended start [] = ⊥
TookNothingSince ended start (moved ∷ before) = ⊥
TookNothingSince ended start (ticked ms standing ∷ before) = (standing.is_ended ≡ ended)
    × ((ms ≡ start) ⊎ ((standing.waits ≡ true) × TookNothingSince ended start before))

-- at a tick at this time, bytes wait, and its socket took none in the time that it may take none
pub record TookNothingForLong (ms : ℕ) (standing : TenureStanding) (before : List Happening) : Type 0 where
  pub waits : standing.waits ≡ true
  pub start : ℕ
  pub is_long : start + patience_of standing.is_ended ≤ ms
  pub took_nothing : TookNothingSince standing.is_ended start before

abbrev pub GivesUpOnlyWhatTookNothing : Type 0
GivesUpOnlyWhatTookNothing = (before : List Happening) (ms : ℕ) (standing : TenureStanding)
    → given_up_at ms standing (tenure_after before) ≡ Some TookNothing → TookNothingForLong ms standing before

abbrev pub GivesUpWhatTookNothing : Type 0
GivesUpWhatTookNothing = (before : List Happening) (ms : ℕ) (standing : TenureStanding)
    → TimesNeverFall (ticked ms standing ∷ before) → TookNothingForLong ms standing before
    → IsSome (given_up_at ms standing (tenure_after before))

abbrev pub GivesUpWhatDoesNotConnect : Type 0
GivesUpWhatDoesNotConnect = (before : List Happening) (ms : ℕ) (standing : TenureStanding)
    → (given_up_at ms standing (tenure_after before) ≡ Some WithoutConnect)
    ↔ ((standing.is_connected ≡ false) × IsSomeAnd (first_tick before) (λ opened. opened + 30000 ≤ ms))
