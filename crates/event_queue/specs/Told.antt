-- What is owed to the host of a controller, and what it was told, by all that happened to the controller's events
-- since its beginning. Each definition looks back over the list of what happened, the newest first; none keeps
-- anything.
use Rattle.std.specs.Prelude.{◌≡◌, ℕ, ◌+◌, Bool, true, false, not, ◌||◌, ◌&&◌, List, [], ◌∷◌, ◌++◌, drop, length, nat_le, IsTrue, Option, Some, None, if◌then◌else◌}
use Rattle.std.specs.Option.{option_map}
use Rattle.event_queue.specs.declared.changes.ViewChanges.{ViewChanges}
use Rattle.event_queue.specs.declared.completion.Completion.{Completion}
use Rattle.event_queue.specs.declared.kind.EventKind.{EventKind}
use Rattle.event_queue.specs.declared.kind.EventKind.TheVariants.{Namespace, Ana, Discovery}
use Rattle.event_queue.specs.declared.notice.KindState.{KindState}
use Rattle.event_queue.specs.declared.notice.Notice.{Notice}
use Rattle.event_queue.specs.declared.notice.Notice.TheVariants.{Quiet, Pending, Reported}
use Rattle.event_queue.specs.Completion.{completion_of, completions_in, tells}
use Rattle.event_queue.specs.Events.{EventState, first_of, kinds_told}
use Rattle.event_queue.specs.Occurrence.{Occurrence, accepted, arises, arose, enables, quiets, read_page, request_in, resets, set_mask, was_reset}

-- an occurrence, and the completion that was sent at it
pub record Happened : Type 0 where
  pub occurrence : Occurrence
  pub answer : Option Completion

-- ---- one kind

-- whether it is enabled: by the latest value of Asynchronous Event Configuration since the latest reset
abbrev pub is_enabled : List Happened → EventKind → Bool
is_enabled [] kind = false
is_enabled (x ∷ before) kind = enables x.occurrence kind (is_enabled before kind)

-- whether something is owed: an edit was an event for it while it was enabled, since the latest reset and the
-- latest read of its log page with RAE 0
abbrev pub is_owed : List Happened → EventKind → Bool
is_owed [] kind = false
is_owed (x ∷ before) kind =
    not (quiets x.occurrence kind) && ((arises x.occurrence kind && is_enabled before kind) || is_owed before kind)

-- whether the host was told: a completion of it was sent since then
abbrev pub is_told : List Happened → EventKind → Bool
is_told [] kind = false
is_told (x ∷ before) kind = not (quiets x.occurrence kind) && (tells x.answer kind || is_told before kind)

-- whether it is owed and was not told
abbrev pub is_to_tell : List Happened → EventKind → Bool
is_to_tell happened kind = is_owed happened kind && not (is_told happened kind)

abbrev pub notice_of : Bool → Bool → Notice
notice_of false told = Quiet
notice_of true false = Pending
notice_of true true = Reported

-- ---- the requests

-- those since the latest reset, the oldest first
abbrev pub requests_since : List Happened → List ℕ
requests_since [] = []
requests_since (x ∷ before) = if resets x.occurrence then [] else requests_since before ++ request_in x.occurrence

abbrev pub count_of : Option Completion → ℕ
count_of None = 0
count_of (Some c) = 1

-- how many completions were sent since the latest reset
abbrev pub completions_since : List Happened → ℕ
completions_since [] = 0
completions_since (x ∷ before) = if resets x.occurrence then 0 else count_of x.answer + completions_since before

-- the requests that wait, the oldest first: those since the latest reset, but for as many of the oldest as
-- completions were sent since
abbrev pub waits_of : List Happened → List ℕ
waits_of happened = drop (completions_since happened) (requests_since happened)

-- ---- what is sent

abbrev pub first_to_tell : List Happened → Option EventKind
first_to_tell happened =
    if is_to_tell happened Namespace then Some Namespace else
    if is_to_tell happened Ana then Some Ana else
    if is_to_tell happened Discovery then Some Discovery else None

-- The completion that an occurrence sends, after all that happened. A request is completed by the first kind that is
-- owed and was not told. A kind that becomes owed completes the oldest request, where one waits.
abbrev pub answer_to : List Happened → Occurrence → Option Completion
answer_to before (accepted cid) = option_map (λ kind. completion_of kind cid) (first_to_tell before)
answer_to before (arose kind) =
    if is_enabled before kind && not (is_owed before kind) then option_map (completion_of kind) (first_of (waits_of before)) else None
answer_to before (read_page kind rae) = None
answer_to before (set_mask mask) = None
answer_to before was_reset = None

-- a request is accepted where fewer than 4 wait
abbrev pub is_accepted : List Happened → Occurrence → Bool
is_accepted before (accepted cid) = not (nat_le 4 (length (waits_of before)))
is_accepted before (arose kind) = true
is_accepted before (read_page kind rae) = true
is_accepted before (set_mask mask) = true
is_accepted before was_reset = true

-- each request was accepted, and each completion was sent, as it had to be
abbrev pub IsAnswered : List Happened → Type 0
IsAnswered [] = Unit {0}
IsAnswered (x ∷ before) = (x.answer ≡ answer_to before x.occurrence) × IsTrue (is_accepted before x.occurrence) × IsAnswered before

-- ---- an edit

-- what happened, and then a change of what each of these kinds tells, one after the other
abbrev pub arose_after : List Happened → List EventKind → List Happened
arose_after before [] = before
arose_after before (kind ∷ kinds) = arose_after (record { occurrence = arose kind; answer = answer_to before (arose kind) } ∷ before) kinds

-- the completions that these send
abbrev pub sent_after : List Happened → List EventKind → List Completion
sent_after before [] = []
sent_after before (kind ∷ kinds) =
    completions_in (answer_to before (arose kind)) ++ sent_after (record { occurrence = arose kind; answer = answer_to before (arose kind) } ∷ before) kinds

-- what happened, and then an edit that changes these views: it is an occurrence for each kind that it is an event for
abbrev pub edit_after : List Happened → ViewChanges → List Happened
edit_after before changes = arose_after before (kinds_told (is_enabled before) changes)

-- the completions that it sends
abbrev pub edit_sends : List Happened → ViewChanges → List Completion
edit_sends before changes = sent_after before (kinds_told (is_enabled before) changes)

-- ---- all of it

abbrev pub kind_of : List Happened → EventKind → KindState
kind_of happened kind = record {
  enabled = is_enabled happened kind;
  notice = notice_of (is_owed happened kind) (is_told happened kind);
}

-- the events of a controller to which this happened
abbrev pub events_of : List Happened → EventState
events_of happened = record {
  waiting = waits_of happened;
  namespace = kind_of happened Namespace;
  ana = kind_of happened Ana;
  discovery = kind_of happened Discovery;
}
