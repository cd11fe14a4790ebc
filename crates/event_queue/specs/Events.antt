-- The events of one controller, and what each call makes of them.
use Rattle.std.specs.Prelude.{ℕ, ◌+◌, ◌^◌, Bool, false, List, [], ◌∷◌, ◌++◌, filter, length, nat_le, Option, Some, None, Result, Ok, Err, if◌then◌else◌}
use Rattle.std.specs.Option.{option_map}
use Rattle.event_queue.specs.declared.changes.ViewChanges.{ViewChanges}
use Rattle.event_queue.specs.declared.completion.Completion.{Completion}
use Rattle.event_queue.specs.declared.events.LimitExceeded.{LimitExceeded}
use Rattle.event_queue.specs.declared.kind.EventKind.{EventKind}
use Rattle.event_queue.specs.declared.kind.EventKind.TheVariants.{Namespace, Ana, Discovery}
use Rattle.event_queue.specs.declared.notice.KindState.{KindState}
use Rattle.event_queue.specs.declared.notice.Notice.{Notice}
use Rattle.event_queue.specs.declared.notice.Notice.TheVariants.{Quiet, Pending, Reported}
use Rattle.event_queue.specs.Changes.{counts_for}
use Rattle.event_queue.specs.Completion.{completion_of, completions_in}
use Rattle.event_queue.specs.Kind.{bit_of, is_in_mask}
use Rattle.event_queue.specs.Notice.{is_pending, takes_change, with_enabled, with_notice}

-- the command identifiers of the requests that wait, the oldest first, and each kind
pub record EventState : Type 0 where
  pub waiting : List ℕ
  pub namespace : KindState
  pub ana : KindState
  pub discovery : KindState

abbrev pub kind_in : EventState → EventKind → KindState
kind_in s Namespace = s.namespace
kind_in s Ana = s.ana
kind_in s Discovery = s.discovery

abbrev pub with_kind : EventKind → KindState → EventState → EventState
with_kind Namespace k s = record s { namespace = k }
with_kind Ana k s = record s { ana = k }
with_kind Discovery k s = record s { discovery = k }

abbrev pub with_notice_of : EventKind → Notice → EventState → EventState
with_notice_of kind notice s = with_kind kind (with_notice notice (kind_in s kind)) s

-- ---- at a Connect, and after a reset: no request waits, and nothing is enabled or to be told

abbrev pub kind_at_connect : KindState
kind_at_connect = record { enabled = false; notice = Quiet }

abbrev pub events_at_connect : EventState
events_at_connect = record { waiting = []; namespace = kind_at_connect; ana = kind_at_connect; discovery = kind_at_connect }

-- ---- an event request

abbrev pub limit_exceeded : LimitExceeded
limit_exceeded = record {}

-- 4 requests may wait
abbrev pub is_full : EventState → Bool
is_full s = nat_le 4 (length s.waiting)

-- kinds are told in a fixed order, whichever became pending first; the others are left to later requests
abbrev pub first_pending : EventState → Option EventKind
first_pending s =
    if is_pending s.namespace.notice then Some Namespace else
    if is_pending s.ana.notice then Some Ana else
    if is_pending s.discovery.notice then Some Discovery else None

-- what it is answered at once: the completion by the first kind that is pending, where one is
abbrev pub request_answer : EventState → ℕ → Result (Option Completion) LimitExceeded
request_answer s cid = if is_full s then Err limit_exceeded else Ok (option_map (λ kind. completion_of kind cid) (first_pending s))

-- that kind is then reported; where none is pending, the request waits
abbrev pub taken_by : Option EventKind → ℕ → EventState → EventState
taken_by None cid s = record s { waiting = s.waiting ++ cid ∷ [] }
taken_by (Some kind) cid s = with_notice_of kind Reported s

abbrev pub requested : EventState → ℕ → EventState
requested s cid = if is_full s then s else taken_by (first_pending s) cid s

-- ---- a change of what a kind tells

abbrev pub first_of : List ℕ → Option ℕ
first_of [] = None
first_of (cid ∷ rest) = Some cid

-- the completion of the oldest request, where one waits
abbrev pub change_answer : EventState → EventKind → Option Completion
change_answer s kind = if takes_change (kind_in s kind) then option_map (completion_of kind) (first_of s.waiting) else None

-- the kind is then reported; where none waits, it is pending
abbrev pub told_to : List ℕ → EventKind → EventState → EventState
told_to [] kind s = with_notice_of kind Pending s
told_to (cid ∷ rest) kind s = with_notice_of kind Reported (record s { waiting = rest })

abbrev pub changed : EventState → EventKind → EventState
changed s kind = if takes_change (kind_in s kind) then told_to s.waiting kind s else s

-- ---- an edit

-- the kinds for which an edit that changes these views is an event, where these kinds are enabled, in their order
abbrev pub kinds_told : (EventKind → Bool) → ViewChanges → List EventKind
kinds_told enabled changes = filter (counts_for enabled changes) (Namespace ∷ Ana ∷ Discovery ∷ [])

-- what changes of what these kinds tell make of the events, one after the other, and their completions
abbrev pub all_changed : EventState → List EventKind → EventState
all_changed s [] = s
all_changed s (kind ∷ kinds) = all_changed (changed s kind) kinds

abbrev pub all_answers : EventState → List EventKind → List Completion
all_answers s [] = []
all_answers s (kind ∷ kinds) = completions_in (change_answer s kind) ++ all_answers (changed s kind) kinds

-- of an edit these kinds are those for which it is an event, by what is enabled before it
abbrev pub edit_answers : EventState → ViewChanges → List Completion
edit_answers s changes = all_answers s (kinds_told (λ kind. (kind_in s kind).enabled) changes)

abbrev pub after_edit : EventState → ViewChanges → EventState
after_edit s changes = all_changed s (kinds_told (λ kind. (kind_in s kind).enabled) changes)

-- ---- a read of its log page

-- it makes the kind quiet, unless RAE (Retain Asynchronous Event) is 1
abbrev pub after_read : EventState → EventKind → Bool → EventState
after_read s kind rae = if rae then s else with_notice_of kind Quiet s

-- ---- Asynchronous Event Configuration

abbrev pub configured : EventState → ℕ → EventState
configured s mask = record {
  waiting = s.waiting;
  namespace = with_enabled (is_in_mask mask Namespace) s.namespace;
  ana = with_enabled (is_in_mask mask Ana) s.ana;
  discovery = with_enabled (is_in_mask mask Discovery) s.discovery;
}

-- Get Features tells a kind by the bit that Set Features enables it by
abbrev pub bit_where : Bool → EventKind → ℕ
bit_where enabled kind = if enabled then 2 ^ bit_of kind else 0

-- the bits of the kinds that are enabled, and no others
abbrev pub mask_in : EventState → ℕ
mask_in s = bit_where s.namespace.enabled Namespace + bit_where s.ana.enabled Ana + bit_where s.discovery.enabled Discovery
