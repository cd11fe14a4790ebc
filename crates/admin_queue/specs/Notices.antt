-- What the host of one controller is told, and what each call makes of it.
use Rattle.std.specs.Prelude.{ℕ, List, []}
use Rattle.event_queue.specs.declared.completion.Completion.{Completion}
use Rattle.event_queue.specs.Events.{EventState, after_edit, edit_answers, events_at_connect}
use Rattle.nvt_config.specs.Configuration.{Configuration}
use Rattle.nvt_config.specs.SeenBy.{seen_by}
use Rattle.ana_view.specs.Counts.{Counts, counts_after, no_changes}
use Rattle.change_lists.specs.Changes.{with_changes}
use Rattle.admin_queue.specs.Viewer.{Views, changes_seen, discovery, io}

-- the events, the change counts, and the identifiers of the namespaces that changed, rising
pub record NoticeState : Type 0 where
  pub events : EventState
  pub counts : Counts
  pub changed : List ℕ

-- at a Connect
abbrev pub notices_at_connect : NoticeState
notices_at_connect = record { events = events_at_connect; counts = no_changes; changed = [] }

-- ---- an edit, from one configuration to another

-- counts and set after it, as the host sees both configurations: a discovery controller keeps its own
abbrev pub counts_noted : Configuration → Configuration → Views → Counts → Counts
counts_noted old new (discovery host) counts = counts
counts_noted old new (io host subsystem port) counts = counts_after (seen_by old host) (seen_by new host) subsystem port counts

abbrev pub set_noted : Configuration → Configuration → Views → List ℕ → List ℕ
set_noted old new (discovery host) set = set
set_noted old new (io host subsystem port) set = with_changes (seen_by old host) (seen_by new host) subsystem set

abbrev pub noted : Configuration → Configuration → Views → NoticeState → NoticeState
noted old new views s = record {
  events = s.events;
  counts = counts_noted old new views s.counts;
  changed = set_noted old new views s.changed;
}

-- the completions that it makes, in order
abbrev pub tell_answers : Configuration → Configuration → Views → NoticeState → List Completion
tell_answers old new views s = edit_answers s.events (changes_seen old new views)

abbrev pub told : Configuration → Configuration → Views → NoticeState → NoticeState
told old new views s = record {
  events = after_edit s.events (changes_seen old new views);
  counts = counts_noted old new views s.counts;
  changed = set_noted old new views s.changed;
}

-- ---- a reset, and an enabling, of the controller

-- its events are as at a Connect
abbrev pub reset : NoticeState → NoticeState
reset s = record s { events = events_at_connect }

-- its counts are 0 and its set is empty
abbrev pub enabled : NoticeState → NoticeState
enabled s = record { events = s.events; counts = no_changes; changed = [] }
