-- When a slot's host is given up.
use Rattle.std.specs.Prelude.{ℕ, ◌-◌, Bool, true, false, not, ◌&&◌, ◌||◌, nat_le, Option, Some, None, is_none, unwrap_or, if◌then◌else◌}
use Rattle.std.specs.Bool.{beq}
use Rattle.nvt_ports.specs.declared.tenure.GivenUp.{GivenUp}
use Rattle.nvt_ports.specs.declared.tenure.GivenUp.TheVariants.{TookNothing, WithoutConnect}
use Rattle.nvt_ports.specs.declared.tenure.Tenure.{Tenure}
use Rattle.nvt_ports.specs.declared.tenure.TenureStanding.{TenureStanding}

abbrev pub begun : Tenure
begun = record { opened = None; since = 0; has_moved = false; is_ended = false }

abbrev pub after_move : Tenure → Tenure
after_move t = record t { has_moved = true }

-- how many ms it may take nothing, once its connection is ended and before
abbrev pub patience_of : Bool → ℕ
patience_of true = 2000
patience_of false = 30000

-- whether the time in which it takes nothing begins anew at this tick
abbrev pub begins_anew : TenureStanding → Tenure → Bool
begins_anew standing t = is_none t.opened || t.has_moved || not standing.waits || not (beq standing.is_ended t.is_ended)

abbrev pub since_of : ℕ → TenureStanding → Tenure → ℕ
since_of ms standing t = if begins_anew standing t then ms else t.since

abbrev pub after_tick : ℕ → TenureStanding → Tenure → Tenure
after_tick ms standing t = record {
  opened = Some (unwrap_or t.opened ms);
  since = since_of ms standing t;
  has_moved = false;
  is_ended = standing.is_ended;
}

abbrev pub is_without_connect : ℕ → TenureStanding → Tenure → Bool
is_without_connect ms standing t = not standing.is_connected && nat_le 30000 (ms - unwrap_or t.opened ms)

-- whether it is given up at this tick, and why
abbrev pub given_up_at : ℕ → TenureStanding → Tenure → Option GivenUp
given_up_at ms standing t =
    if is_without_connect ms standing t then Some WithoutConnect else
    if nat_le (patience_of standing.is_ended) (ms - since_of ms standing t) then Some TookNothing else None
