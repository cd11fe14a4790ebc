-- Pauses between calls in which nothing comes.
use Rattle.std.specs.Prelude.{ℕ, ◌+◌, ◌-◌, ◌*◌, Bool, false, Option, Some, None, min, nat_le, nat_lt, not, if◌then◌else◌}
use Rattle.nvt_ports.specs.declared.pause.Pause.{Pause}
use Rattle.nvt_ports.specs.declared.pause.Pause.TheVariants.{Awake, Asleep}

abbrev pub awake : Pause
awake = Awake 0 None

-- the time is looked at once in 65 calls
abbrev pub is_timed : Pause → Bool
is_timed (Awake vain since) = not (nat_lt vain 64)
is_timed (Asleep micros) = false

-- the pause that follows a call in vain, in microseconds
abbrev pub pause_of : Pause → Option ℕ
pause_of (Awake vain since) = None
pause_of (Asleep micros) = Some micros

-- Nothing came since the time that was looked at first. The first pause is of 50 microseconds, once that is 4,000 ago.
abbrev pub quiet_at : ℕ → Option ℕ → Pause
quiet_at now None = Awake 0 (Some now)
quiet_at now (Some since) = if nat_le 4000 (now - since) then Asleep 50 else Awake 0 (Some since)

-- 64 calls in vain go by without a look at the clock: the time counts only in the one behind them
abbrev pub watched_at : ℕ → ℕ → Option ℕ → Pause
watched_at now vain since = if nat_lt vain 64 then Awake (vain + 1) since else quiet_at now since

-- each pause is twice as long as the one before, up to a millisecond
abbrev pub pause_after : ℕ → Pause → Pause
pause_after now (Awake vain since) = watched_at now vain since
pause_after now (Asleep micros) = Asleep (min (micros * 2) 1000)
