-- What a command of a controller's own host does to what the host is told.
use Rattle.std.specs.Prelude.{Bool, false, ◌&&◌, [], if◌then◌else◌}
use Rattle.event_queue.specs.declared.kind.EventKind.TheVariants.{Namespace}
use Rattle.event_queue.specs.Events.{EventState, after_read, configured, requested}
use Rattle.event_queue.specs.Kind.{is_same_kind}
use Rattle.admin_queue.specs.declared.update.NoticeUpdate.{NoticeUpdate}
use Rattle.admin_queue.specs.declared.update.NoticeUpdate.TheVariants.{Requested, Read, Configured}
use Rattle.admin_queue.specs.Notices.{NoticeState}

-- to the events
abbrev pub events_updated : EventState → NoticeUpdate → EventState
events_updated s (Requested cid) = requested s cid
events_updated s (Read kind retain whole) = after_read s kind retain
events_updated s (Configured mask) = configured s mask

-- whether it empties the set of changed namespaces: a read of the whole Changed Namespace List does
abbrev pub empties_set : NoticeUpdate → Bool
empties_set (Requested cid) = false
empties_set (Read kind retain whole) = is_same_kind kind Namespace && whole
empties_set (Configured mask) = false

-- the counts stay
abbrev pub updated : NoticeState → NoticeUpdate → NoticeState
updated s u = record {
  events = events_updated s.events u;
  counts = s.counts;
  changed = if empties_set u then [] else s.changed;
}
