-- What the host of a controller is owed, by all that happened to the controller since its beginning. Each definition
-- looks back over the list of what happened, the newest first.
use Rattle.std.specs.Prelude.{ℕ, List, [], ◌∷◌, Option, Result, Ok, Err, if◌then◌else◌}
use Rattle.event_queue.specs.declared.completion.Completion.{Completion}
use Rattle.event_queue.specs.declared.events.LimitExceeded.{LimitExceeded}
use Rattle.event_queue.specs.Events.{limit_exceeded}
use Rattle.event_queue.specs.Laws.{happens}
use Rattle.event_queue.specs.Occurrence.{Occurrence as EventOccurrence, accepted, read_page, set_mask, was_reset as events_reset}
use Rattle.event_queue.specs.Told.{Happened, answer_to, edit_after, edit_sends, events_of, is_accepted}
use Rattle.nvt_config.specs.Configuration.{Configuration}
use Rattle.nvt_config.specs.SeenBy.{seen_by}
use Rattle.ana_view.specs.Changes.{Occurrence as CountOccurrence, counts_of, edited as counts_edited, enabled as counts_enabled}
use Rattle.ana_view.specs.Counts.{Counts, no_changes}
use Rattle.change_lists.specs.Changes.{Occurrence as SetOccurrence, changed_nsids, edited as set_edited, emptied}
use Rattle.admin_queue.specs.declared.update.NoticeUpdate.{NoticeUpdate}
use Rattle.admin_queue.specs.declared.update.NoticeUpdate.TheVariants.{Requested, Read, Configured}
use Rattle.admin_queue.specs.Notices.{NoticeState}
use Rattle.admin_queue.specs.Update.{empties_set}
use Rattle.admin_queue.specs.Viewer.{Views, changes_seen, discovery, io}

-- An edit made of one configuration another, and did not end the controller; a command of the controller's own host did
-- this; the controller was reset; it was enabled.
pub data Occurrence : Type 0 where
  edited : Configuration → Configuration → Occurrence
  update : NoticeUpdate → Occurrence
  was_reset : Occurrence
  was_enabled : Occurrence

-- ---- the events

abbrev pub event_of : NoticeUpdate → EventOccurrence
event_of (Requested cid) = accepted cid
event_of (Read kind retain whole) = read_page kind retain
event_of (Configured mask) = set_mask mask

-- what happened to them: an edit is an occurrence for each kind that it is an event for
abbrev pub events_happened : Views → List Occurrence → List Happened
events_happened views [] = []
events_happened views (edited old new ∷ before) = edit_after (events_happened views before) (changes_seen old new views)
events_happened views (update u ∷ before) = happens (events_happened views before) (event_of u)
events_happened views (was_reset ∷ before) = happens (events_happened views before) events_reset
events_happened views (was_enabled ∷ before) = events_happened views before

-- the completions that an edit sends, after all that happened
abbrev pub edit_owed : Views → List Occurrence → Configuration → Configuration → List Completion
edit_owed views before old new = edit_sends (events_happened views before) (changes_seen old new views)

-- what a request is answered: the completion that is owed, where one is, or that as many wait as may
abbrev pub request_owed : Views → List Occurrence → ℕ → Result (Option Completion) LimitExceeded
request_owed views before cid =
    if is_accepted (events_happened views before) (accepted cid) then Ok (answer_to (events_happened views before) (accepted cid)) else Err limit_exceeded

-- ---- the change counts

-- what happened to them: each edit, as the host saw both configurations
abbrev pub counts_happened : List ℕ → List Occurrence → List CountOccurrence
counts_happened host [] = []
counts_happened host (edited old new ∷ before) = counts_edited (seen_by old host) (seen_by new host) ∷ counts_happened host before
counts_happened host (update u ∷ before) = counts_happened host before
counts_happened host (was_reset ∷ before) = counts_happened host before
counts_happened host (was_enabled ∷ before) = counts_enabled ∷ counts_happened host before

-- a discovery controller has no ANA groups, and its counts are 0
abbrev pub counts_seen : Views → List Occurrence → Counts
counts_seen (discovery host) happened = no_changes
counts_seen (io host subsystem port) happened = counts_of (counts_happened host happened) subsystem port

-- ---- the namespaces that changed

-- what happened to them: each edit, as the host saw both configurations
abbrev pub set_happened : List ℕ → List Occurrence → List SetOccurrence
set_happened host [] = []
set_happened host (edited old new ∷ before) = set_edited (seen_by old host) (seen_by new host) ∷ set_happened host before
set_happened host (update u ∷ before) = if empties_set u then emptied ∷ set_happened host before else set_happened host before
set_happened host (was_reset ∷ before) = set_happened host before
set_happened host (was_enabled ∷ before) = emptied ∷ set_happened host before

-- a discovery controller has no namespaces
abbrev pub changed_seen : Views → List Occurrence → List ℕ
changed_seen (discovery host) happened = []
changed_seen (io host subsystem port) happened = changed_nsids (set_happened host happened) subsystem

-- ---- all of it

-- what the host of a controller is told to which this happened
abbrev pub notices_of : Views → List Occurrence → NoticeState
notices_of views happened = record {
  events = events_of (events_happened views happened);
  counts = counts_seen views happened;
  changed = changed_seen views happened;
}
