-- What is told after calls is what look-backs say.
use Rattle.std.proofs.Common.{◌≡◌, ℕ, Bool, true, false, not, IsTrue, List, [], ◌∷◌, Option, refl, ap, ◌∙◌}
use Rattle.std.specs.Prelude.{Ok, Err, if◌then◌else◌}
use Rattle.event_queue.specs.declared.completion.Completion.{Completion}
use Rattle.event_queue.specs.Events.{EventState, is_full, limit_exceeded, request_answer}
use Rattle.event_queue.specs.Laws.{completion_in}
use Rattle.event_queue.specs.Occurrence.{accepted, was_reset as events_reset}
use Rattle.event_queue.specs.Told.{IsAnswered, answer_to, events_of}
use Rattle.event_queue.proofs.Edits.{edits_are_told}
use Rattle.event_queue.proofs.Steps.{answered_next, called_next, told_as_it_happened}
use Rattle.nvt_config.specs.SeenBy.{seen_by}
use Rattle.ana_view.specs.Counts.{Counts}
use Rattle.ana_view.proofs.Counting.{changes_are_counted}
use Rattle.change_lists.specs.Changes.{changed_nsids, emptied}
use Rattle.change_lists.proofs.Changed.{changes_are_noted}
use Rattle.admin_queue.specs.declared.update.NoticeUpdate.TheVariants.{Requested, Read, Configured}
use Rattle.admin_queue.specs.NoticeLaws.{NoticesLookBack, called, notices_after}
use Rattle.admin_queue.specs.Notices.{NoticeState}
use Rattle.admin_queue.specs.Told.{Occurrence, changed_seen, counts_happened, counts_seen, edited, event_of, events_happened, notices_of, request_owed, set_happened, update, was_enabled, was_reset}
use Rattle.admin_queue.specs.Update.{empties_set}
use Rattle.admin_queue.specs.Viewer.{Views, changes_seen, discovery, io}

-- ---- the events

answered : (views : Views) (happened : List Occurrence) → IsAnswered (events_happened views happened)
answered views [] = tt
answered views (edited old new ∷ before) = edits_are_told.answered (events_happened views before) (changes_seen old new views) (answered views before)
answered views (update u ∷ before) = answered_next (events_happened views before) (event_of u) (answered views before)
answered views (was_reset ∷ before) = answered_next (events_happened views before) events_reset (answered views before)
answered views (was_enabled ∷ before) = answered views before

events_next : (views : Views) (x : Occurrence) (before : List Occurrence)
    → events_of (events_happened views (x ∷ before)) ≡ (called views x (notices_of views before)).events
events_next views (edited old new) before = edits_are_told.after (events_happened views before) (changes_seen old new views) (answered views before)
events_next views (update (Requested cid)) before = called_next (events_happened views before) (accepted cid) (answered views before)
events_next views (update (Read kind retain whole)) before = called_next (events_happened views before) (event_of (Read kind retain whole)) (answered views before)
events_next views (update (Configured mask)) before = called_next (events_happened views before) (event_of (Configured mask)) (answered views before)
events_next views was_reset before = called_next (events_happened views before) events_reset (answered views before)
events_next views was_enabled before = refl

-- a request is accepted where fewer than 4 wait, and then answered what is owed
answer_by_room : (full : Bool) (owed found : Option Completion)
    → (IsTrue (not full) → owed ≡ completion_in (if full then Err limit_exceeded else Ok found))
    → (if not full then Ok owed else Err limit_exceeded) ≡ (if full then Err limit_exceeded else Ok found)
answer_by_room true owed found same = refl
answer_by_room false owed found same = ap (λ (o : Option Completion). Ok o) (same refl)

requested_is : (views : Views) (before : List Occurrence) (cid : ℕ) → request_owed views before cid ≡ request_answer (events_of (events_happened views before)) cid
requested_is views before cid =
    answer_by_room (is_full (events_of (events_happened views before))) (answer_to (events_happened views before) (accepted cid)) _ (λ room.
    told_as_it_happened.answer (record { occurrence = accepted cid; answer = answer_to (events_happened views before) (accepted cid) }) (events_happened views before)
    (refl, room, answered views before))

-- ---- the change counts

counts_next : (views : Views) (x : Occurrence) (before : List Occurrence)
    → counts_seen views (x ∷ before) ≡ (called views x (notices_of views before)).counts
counts_next (discovery host) (edited old new) before = refl
counts_next (discovery host) (update u) before = refl
counts_next (discovery host) was_reset before = refl
counts_next (discovery host) was_enabled before = refl
counts_next (io host subsystem port) (edited old new) before = changes_are_counted.after_edit (counts_happened host before) (seen_by old host) (seen_by new host) subsystem port
counts_next (io host subsystem port) (update u) before = refl
counts_next (io host subsystem port) was_reset before = refl
counts_next (io host subsystem port) was_enabled before = changes_are_counted.once_enabled (counts_happened host before) subsystem port

-- ---- the namespaces that changed

emptied_none : (b : Bool) → ◌≡◌ {A = List ℕ} [] (if b then [] else [])
emptied_none true = refl
emptied_none false = refl

set_next : (views : Views) (x : Occurrence) (before : List Occurrence)
    → changed_seen views (x ∷ before) ≡ (called views x (notices_of views before)).changed
set_next (discovery host) (edited old new) before = refl
set_next (discovery host) (update u) before = emptied_none (empties_set u)
set_next (discovery host) was_reset before = refl
set_next (discovery host) was_enabled before = refl
set_next (io host subsystem port) (edited old new) before = changes_are_noted.after_changes (set_happened host before) (seen_by old host) (seen_by new host) subsystem
set_next (io host subsystem port) (update u) before = by_test (empties_set u) where
  by_test : (b : Bool) → changed_nsids (if b then emptied ∷ set_happened host before else set_happened host before) subsystem ≡ (if b then [] else changed_nsids (set_happened host before) subsystem)
  by_test true = changes_are_noted.once_emptied (set_happened host before) subsystem
  by_test false = refl
set_next (io host subsystem port) was_reset before = refl
set_next (io host subsystem port) was_enabled before = changes_are_noted.once_emptied (set_happened host before) subsystem

-- ---- all of it

same_state : (s t : NoticeState) → s.events ≡ t.events → s.counts ≡ t.counts → s.changed ≡ t.changed → s ≡ t
same_state s t events counts changed =
    ap (λ (e : EventState). record s { events = e }) events
    ∙ ap (λ (c : Counts). record { events = t.events; counts = c; changed = s.changed }) counts
    ∙ ap (λ (set : List ℕ). record { events = t.events; counts = t.counts; changed = set }) changed

all_next : (views : Views) (x : Occurrence) (before : List Occurrence) → notices_of views (x ∷ before) ≡ called views x (notices_of views before)
all_next views x before =
    same_state (notices_of views (x ∷ before)) (called views x (notices_of views before)) (events_next views x before) (counts_next views x before) (set_next views x before)

all_after : (views : Views) (happened : List Occurrence) → notices_of views happened ≡ notices_after views happened
all_after (discovery host) [] = refl
all_after (io host subsystem port) [] =
    same_state (notices_of (io host subsystem port) []) (notices_after (io host subsystem port) []) refl (changes_are_counted.first subsystem port) (changes_are_noted.first subsystem)
all_after views (x ∷ before) = all_next views x before ∙ ap (called views x) (all_after views before)

pub notices_look_back : NoticesLookBack
notices_look_back = record {
  after = all_after;
  next = all_next;
  answered = answered;
  completes = λ views before old new. edits_are_told.sent (events_happened views before) (changes_seen old new views) (answered views before);
  requested = requested_is;
}
