-- Laws of the events of one controller, over all that happened to them.
use Rattle.std.specs.Prelude.{◌≡◌, Bool, true, false, ◌||◌, ◌&&◌, List, [], ◌∷◌, Option, Some, None, Result, Ok, Err, if◌then◌else◌}
use Rattle.event_queue.specs.declared.changes.ViewChanges.{ViewChanges}
use Rattle.event_queue.specs.declared.completion.Completion.{Completion}
use Rattle.event_queue.specs.declared.events.LimitExceeded.{LimitExceeded}
use Rattle.event_queue.specs.declared.kind.EventKind.{EventKind}
use Rattle.event_queue.specs.declared.kind.EventKind.TheVariants.{Namespace, Ana}
use Rattle.event_queue.specs.Changes.{counts_for}
use Rattle.event_queue.specs.Completion.{tells}
use Rattle.event_queue.specs.Events.{EventState, after_edit, after_read, change_answer, changed, configured, edit_answers, events_at_connect, request_answer, requested}
use Rattle.event_queue.specs.Occurrence.{Occurrence, accepted, arose, read_page, set_mask, was_reset}
use Rattle.event_queue.specs.Told.{Happened, IsAnswered, answer_to, edit_after, edit_sends, events_of, is_accepted, is_told, is_to_tell, waits_of}

-- what the call of an occurrence makes of the events
abbrev pub called : Occurrence → EventState → EventState
called (accepted cid) s = requested s cid
called (arose kind) s = changed s kind
called (read_page kind rae) s = after_read s kind rae
called (set_mask mask) s = configured s mask
called was_reset s = events_at_connect

abbrev pub completion_in : Result (Option Completion) LimitExceeded → Option Completion
completion_in (Ok answer) = answer
completion_in (Err e) = None

-- the completion that it answers
abbrev pub call_answer : Occurrence → EventState → Option Completion
call_answer (accepted cid) s = completion_in (request_answer s cid)
call_answer (arose kind) s = change_answer s kind
call_answer (read_page kind rae) s = None
call_answer (set_mask mask) s = None
call_answer was_reset s = None

-- the events after calls, the newest of them first, refused requests among them
abbrev pub events_after : List Occurrence → EventState
events_after [] = events_at_connect
events_after (call ∷ before) = called call (events_after before)

-- what one more call adds to what happened
abbrev pub happens : List Happened → Occurrence → List Happened
happens before call = if is_accepted before call then record { occurrence = call; answer = answer_to before call } ∷ before else before

-- what happened by calls
abbrev pub happened_by : List Occurrence → List Happened
happened_by [] = []
happened_by (call ∷ before) = happens (happened_by before) call

-- Whatever happened: each call goes from the events that a look-back gives to those that it gives after one
-- occurrence more, and answers what that occurrence sends. So after any calls the events are those of a look-back,
-- and a refused request adds nothing to look back to.
pub record ToldAsItHappened : Type 0 where
  pub after : (x : Happened) (before : List Happened) → IsAnswered (x ∷ before) → events_of (x ∷ before) ≡ called x.occurrence (events_of before)
  pub answer : (x : Happened) (before : List Happened) → IsAnswered (x ∷ before) → x.answer ≡ call_answer x.occurrence (events_of before)
  pub answered : (calls : List Occurrence) → IsAnswered (happened_by calls)
  pub calls : (calls : List Occurrence) → events_of (happened_by calls) ≡ events_after calls

-- A kind is told once until its log page is read; the oldest request is completed, and no other is lost; no request
-- waits while something is to be told.
pub record ToldOnceToTheOldest : Type 0 where
  pub once : (x : Happened) (before : List Happened) (kind : EventKind) → IsAnswered (x ∷ before) → tells x.answer kind ≡ true → is_told before kind ≡ false
  pub oldest : (before : List Happened) (kind : EventKind) (c : Completion) → IsAnswered (record { occurrence = arose kind; answer = Some c } ∷ before)
      → waits_of before ≡ c.cid ∷ waits_of (record { occurrence = arose kind; answer = Some c } ∷ before)
  pub none_waits : (happened : List Happened) (kind : EventKind) → IsAnswered happened → is_to_tell happened kind ≡ true → waits_of happened ≡ []

-- An edit is an event for the namespaces' kind or for that of Asymmetric Namespace Access, never for both; and for
-- one of them where it changes what the latter tells and that is enabled.
pub record OneChangeIsOneEvent : Type 0 where
  pub never_both : (enabled : EventKind → Bool) (x : ViewChanges) → (counts_for enabled x Namespace && counts_for enabled x Ana) ≡ false
  pub one : (enabled : EventKind → Bool) (x : ViewChanges) → x.ana ≡ true → enabled Ana ≡ true
      → (counts_for enabled x Namespace || counts_for enabled x Ana) ≡ true

-- Whatever happened: an edit makes of the events, and sends, what a look-back says over an occurrence for each kind
-- that it is an event for.
pub record EditsAreTold : Type 0 where
  pub answered : (before : List Happened) (x : ViewChanges) → IsAnswered before → IsAnswered (edit_after before x)
  pub after : (before : List Happened) (x : ViewChanges) → IsAnswered before → events_of (edit_after before x) ≡ after_edit (events_of before) x
  pub sent : (before : List Happened) (x : ViewChanges) → IsAnswered before → edit_sends before x ≡ edit_answers (events_of before) x
