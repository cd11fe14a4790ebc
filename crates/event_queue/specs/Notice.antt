-- How far a host was told of one kind of events.
use Rattle.std.specs.Prelude.{Bool, true, false, ◌&&◌}
use Rattle.event_queue.specs.declared.notice.KindState.{KindState}
use Rattle.event_queue.specs.declared.notice.Notice.{Notice}
use Rattle.event_queue.specs.declared.notice.Notice.TheVariants.{Quiet, Pending, Reported}

abbrev pub is_quiet : Notice → Bool
is_quiet Quiet = true
is_quiet Pending = false
is_quiet Reported = false

abbrev pub is_pending : Notice → Bool
is_pending Quiet = false
is_pending Pending = true
is_pending Reported = false

-- whether a change of what the kind tells makes an event
abbrev pub takes_change : KindState → Bool
takes_change k = k.enabled && is_quiet k.notice

abbrev pub with_notice : Notice → KindState → KindState
with_notice notice k = record { enabled = k.enabled; notice = notice }

abbrev pub with_enabled : Bool → KindState → KindState
with_enabled enabled k = record { enabled = enabled; notice = k.notice }
