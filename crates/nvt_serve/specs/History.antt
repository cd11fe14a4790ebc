-- What deeds add to the history of a target, to what each connection received, and to what was taken from it.
use Rattle.std.specs.Prelude.{◌≡◌, ◌⊎◌, ℕ, ◌==◌, List, [], ◌∷◌, ◌++◌, IsOk, Option, Some, None, if◌then◌else◌}
use Rattle.std.specs.List.{AllZip, list_any}
use Rattle.config_lists.specs.declared.edit.Edit.{Edit}
use Rattle.nvt_config.specs.Accept.{accept}
use Rattle.nvt_config.specs.Configuration.{Configuration}
use Rattle.config_text.specs.EditLine.{IsLineOf}
use Rattle.edit_lines.specs.declared.line.NotMade.{NotMade}
use Rattle.edit_lines.specs.Line.{IsRefused}
use Rattle.tables.specs.NumberTable.{place}
use Rattle.nvt_ports.specs.Told as told
use Rattle.nvt_ports.specs.Told.{HandedOut, Told, more, with_taken}
use Rattle.nvt_serve.specs.Deed as deed
use Rattle.nvt_serve.specs.Deed.{Deed, Runs, Serving, is_asking, is_edit}
use Rattle.nvt_serve.specs.Reply.{ok_text, refusal_text}
use Rattle.nvt_serve.specs.Served.{AreTied, count_of}
use Rattle.target_core.specs.Agreement.{Agrees, extended, left}
use Rattle.target_history.specs.Event as event
use Rattle.target_history.specs.Event.{Event}
use Rattle.target_history.specs.History.{Opening}
use Rattle.target_core.specs.Possible.{IsPossible}

-- ---- the history

-- the event of the target that it is, where it is one
abbrev pub event_of : Deed → Option Event
event_of (deed.clock_set ms) = Some (event.ticked ms)
event_of (deed.connected slot port k) = Some (event.opened port k)
event_of (deed.gone slot k) = Some (event.given_up k)
event_of (deed.edit_made line edit) = Some (event.edited edit)
event_of (deed.stepped_on k found m) = Some (event.stepped k found m)
event_of (deed.failed slot k) = Some (event.given_up k)
event_of (deed.closed slot k) = Some (event.given_up k)
event_of _ = None

abbrev pub with_event : Option Event → List Event → List Event
with_event None events = events
with_event (Some e) events = e ∷ events

-- the events, the newest first, once these deeds are done, the oldest first
abbrev pub events_after : List Deed → List Event → List Event
events_after [] events = events
events_after (d ∷ deeds) events = events_after deeds (with_event (event_of d) events)

abbrev pub left_by : Option Event → (ℕ → List ℕ) → ℕ → List ℕ
left_by None f = f
left_by (Some e) f = left e f

-- what each connection received since it was opened
abbrev pub received_with : Deed → (ℕ → List ℕ) → ℕ → List ℕ
received_with (deed.received slot k bytes) f = extended f k bytes
received_with d f = left_by (event_of d) f

abbrev pub received_after : List Deed → (ℕ → List ℕ) → ℕ → List ℕ
received_after [] f = f
received_after (d ∷ deeds) f = received_after deeds (received_with d f)

-- what was taken from each since
abbrev pub taken_with : Deed → (ℕ → List ℕ) → ℕ → List ℕ
taken_with (deed.sent slot k bytes) f = extended f k bytes
taken_with d f = left_by (event_of d) f

abbrev pub taken_after : List Deed → (ℕ → List ℕ) → ℕ → List ℕ
taken_after [] f = f
taken_after (d ∷ deeds) f = taken_after deeds (taken_with d f)

-- Whatever history a target agrees with, after deeds it agrees with the history that is longer by theirs, where connections
-- received, and had taken from them, what the deeds say.
pub record ServedTargetsAgree : Type 0 where
  pub agrees : (deeds : List Deed) (old new : Serving) → Runs deeds old new
      → (disks : Opening) (events : List Event) (received taken : ℕ → List ℕ) → Agrees old.target disks events received taken
      → Agrees new.target disks (events_after deeds events) (received_after deeds received) (taken_after deeds taken)

-- The events of deeds are events that the target does not refuse: after a history of such events there is one, where the
-- slots were tied as they are from the first deed on.
pub record DeedsArePossible : Type 0 where
  pub possible : (deeds : List Deed) (old new : Serving) → Runs deeds old new → AreTied old
      → (disks : Opening) (events : List Event) (received taken : ℕ → List ℕ) → Agrees old.target disks events received taken
      → IsPossible disks events → IsPossible disks (events_after deeds events)

-- ---- what ports that tell say

-- what they handed out, where the deed is an answer of theirs
abbrev pub handed_out_for : Deed → List HandedOut
handed_out_for (deed.clock_set ms) = told.ticked ms ∷ []
handed_out_for (deed.connected slot port k) = told.opened slot port ∷ []
handed_out_for (deed.refused slot port fault) = told.opened slot port ∷ []
handed_out_for (deed.received slot k piece) = told.bytes slot piece ∷ []
handed_out_for (deed.received_by_none slot piece) = told.bytes slot piece ∷ []
handed_out_for (deed.gone slot k) = told.ended slot ∷ []
handed_out_for (deed.gone_from_none slot) = told.ended slot ∷ []
handed_out_for (deed.edit_made text edit) = told.line text ∷ []
handed_out_for (deed.edit_refused text why) = told.line text ∷ []
handed_out_for _ = []

abbrev pub handed_out_in : List Deed → List HandedOut
handed_out_in [] = []
handed_out_in (d ∷ deeds) = handed_out_for d ++ handed_out_in deeds

-- what they took in each slot
abbrev pub took_with : Deed → List (List ℕ) → List (List ℕ)
took_with (deed.sent slot k piece) took = with_taken slot piece took
took_with d took = took

abbrev pub took_after : List Deed → List (List ℕ) → List (List ℕ)
took_after [] took = took
took_after (d ∷ deeds) took = took_after deeds (took_with d took)

-- what a line was replied
abbrev pub replies_for : Deed → List (List ℕ)
replies_for (deed.edit_made text edit) = ok_text ∷ []
replies_for (deed.edit_refused text why) = refusal_text why ∷ []
replies_for _ = []

abbrev pub replies_in : List Deed → List (List ℕ)
replies_in [] = []
replies_in (d ∷ deeds) = replies_for d ++ replies_in deeds

-- What deeds add to what is told, where this configuration stands after them: what was handed out for them, in their order,
-- and what was taken; each deed that is an answer to a call is one call of `next`, of which 2^64 - 1 are counted; what was
-- replied to each line, in the order of the lines; and, where an edit was made, the configuration that stands.
pub record TellDeeds (deeds : List Deed) (config : Configuration) (old new : Told) : Type 0 where
  pub asked : new.asked ≡ more old.asked (count_of is_asking deeds)
  pub handed_out : new.handed_out ≡ old.handed_out ++ handed_out_in deeds
  pub took : new.took ≡ took_after deeds old.took
  pub replies : new.replies ≡ old.replies ++ replies_in deeds
  pub refreshed : new.refreshed ≡ (if list_any is_edit deeds then Some config else old.refreshed)

-- Ports that tell, and still do after deeds, say so.
pub record PortsTellDeeds : Type 0 where
  pub tells : (deeds : List Deed) (old new : Serving) (t u : Told) → Runs deeds old new → old.ports.told ≡ Some t → new.ports.told ≡ Some u
      → TellDeeds deeds new.target.config t u

-- ---- lines and replies

abbrev pub lines_in : List HandedOut → List (List ℕ)
lines_in [] = []
lines_in (told.line text ∷ rest) = text ∷ lines_in rest
lines_in (h ∷ rest) = lines_in rest

-- by some configuration the line is that of an edit, which is accepted, and the reply is `ok`; or it says why it is not made
abbrev pub IsReplyTo : List ℕ → List ℕ → Type 0
IsReplyTo line reply = (c : Configuration)
    × (((edit : Edit) × IsLineOf line edit × IsOk (accept c edit) × (reply ≡ ok_text))
    ⊎ ((why : NotMade) × IsRefused c line why × (reply ≡ refusal_text why)))

-- Each line that was handed out is answered once, in the order of the lines.
pub record LinesAreAnswered : Type 0 where
  pub answered : (deeds : List Deed) (old new : Serving) → Runs deeds old new → AllZip IsReplyTo (lines_in (handed_out_in deeds)) (replies_in deeds)

-- ---- the stream of a slot

-- the bytes that were handed out for a slot since a host connected in it last, behind these
abbrev pub heard_with : ℕ → HandedOut → List ℕ → List ℕ
heard_with slot (told.opened other port) so_far = if other == slot then [] else so_far
heard_with slot (told.bytes other piece) so_far = if other == slot then so_far ++ piece else so_far
heard_with slot (told.ended other) so_far = so_far
heard_with slot (told.line text) so_far = so_far
heard_with slot (told.ticked ms) so_far = so_far

abbrev pub heard_in : ℕ → List HandedOut → List ℕ → List ℕ
heard_in slot [] so_far = so_far
heard_in slot (h ∷ rest) so_far = heard_in slot rest (heard_with slot h so_far)

-- the bytes that were taken in a slot since then
abbrev pub sent_with : ℕ → Deed → List ℕ → List ℕ
sent_with slot (deed.connected other port k) so_far = if other == slot then [] else so_far
sent_with slot (deed.sent other k piece) so_far = if other == slot then so_far ++ piece else so_far
sent_with slot d so_far = so_far

abbrev pub sent_in : ℕ → List Deed → List ℕ → List ℕ
sent_in slot [] so_far = so_far
sent_in slot (d ∷ deeds) so_far = sent_in slot deeds (sent_with slot d so_far)

-- While a connection that was opened in a slot is in it, what it received since is what was handed out for the slot since,
-- and what was taken from it is what the slot took.
pub record SlotsCarryTheirConnections : Type 0 where
  pub received : (deeds : List Deed) (old new : Serving) (f : ℕ → List ℕ) (slot k : ℕ)
      → ((slot : ℕ) → place old.connections slot ≡ None) → Runs deeds old new → place new.connections slot ≡ Some k
      → received_after deeds f k ≡ heard_in slot (handed_out_in deeds) []
  pub taken : (deeds : List Deed) (old new : Serving) (f : ℕ → List ℕ) (slot k : ℕ)
      → ((slot : ℕ) → place old.connections slot ≡ None) → Runs deeds old new → place new.connections slot ≡ Some k
      → taken_after deeds f k ≡ sent_in slot deeds []

-- Between deeds the target stands as those before leave it: what is true after deeds is true at each moment between.
pub record DeedsHaveMoments : Type 0 where
  pub moment : (first rest : List Deed) (old new : Serving) → Runs (first ++ rest) old new
      → (mid : Serving) × Runs first old mid × Runs rest mid new
