-- What becomes of a host whose slot was closed.
use Rattle.std.specs.Prelude.{ℕ, ◌+◌, ◌-◌, ◌^◌, Bool, ◌||◌, min, nat_le, not, if◌then◌else◌}
use Rattle.nvt_ports.specs.declared.lingering.Linger.{Linger}
use Rattle.nvt_ports.specs.declared.lingering.Lingering.{Lingering}
use Rattle.nvt_ports.specs.declared.lingering.Lingering.TheVariants.{Drains, Over, Sends}
use Rattle.nvt_ports.specs.declared.lingering.LingeringHost.{LingeringHost}

-- two seconds behind this time, in microseconds
abbrev pub until_of : ℕ → ℕ
until_of now = min (now + 2000000) (2 ^ 64 - 1)

-- whether its time is over, or nothing goes to it any more, or all was sent and it has closed its side
abbrev pub is_over : ℕ → LingeringHost → Linger → Bool
is_over now host linger = nat_le linger.until now || not host.has_socket || not (host.keeps || not host.is_ended)

-- what is kept for it is sent first
abbrev pub lingering_at : ℕ → LingeringHost → Linger → Lingering
lingering_at now host linger = if is_over now host linger then Over else if host.keeps then Sends else Drains
