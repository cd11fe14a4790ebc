-- When the next line of edits is taken.
use Rattle.std.specs.Prelude.{ℕ, ◌+◌, ◌-◌, ◌^◌, Bool, true, false, ◌||◌, min, nat_le, not}
use Rattle.nvt_ports.specs.declared.edit_pace.EditPace.{EditPace}
use Rattle.nvt_ports.specs.declared.edit_pace.EditPace.TheVariants as pace

-- what a line asked for is done at this time: as much passes before the next one as it took
abbrev pub over_at : ℕ → EditPace → EditPace
over_at now pace.Free = pace.Free
over_at now (pace.Busy since) = pace.Rests (min (now + (now - since)) (2 ^ 64 - 1))
over_at now (pace.Rests until) = pace.Rests until

-- the clock is read only where a line may have to wait for the one before it
abbrev pub is_timed : EditPace → Bool
is_timed pace.Free = false
is_timed (pace.Busy since) = true
is_timed (pace.Rests until) = true

-- beside no host at any time, else once the rest is over
abbrev pub may_take : ℕ → Bool → EditPace → Bool
may_take now has_hosts pace.Free = true
may_take now has_hosts (pace.Busy since) = not has_hosts
may_take now has_hosts (pace.Rests until) = not has_hosts || nat_le until now
