-- The host of each controller that lives may use its subsystem: from its Connect on, and after each edit.
use Rattle.std.proofs.Common.{◌≡◌, ℕ, Bool, true, false, not, List, [], ◌∷◌, Option, Some, None, refl, sym, subst}
use Rattle.std.specs.Prelude.{if◌then◌else◌, ◌==◌}
use Rattle.std.specs.Option.{option_map}
use Rattle.config_lists.specs.declared.edit.Edit.{Edit}
use Rattle.config_lists.specs.declared.edit.Edit.TheVariants.{PortDel}
use Rattle.nvt_config.specs.Configuration.{Configuration}
use Rattle.nvt_config.specs.Permission.{may_use}
use Rattle.fabrics_connect.specs.declared.row.Row.{Row}
use Rattle.fabrics_connect.specs.Permitted.{is_permitted, may_use_named}
use Rattle.fabrics_connect.specs.Row.{joined, left, left_all, with_ready}
use Rattle.fabrics_connect.proofs.Consequences.{beginnings_are_permitted}
use Rattle.pdu_cut.specs.Front.{Front}
use Rattle.target_decision.specs.declared.controller.Controller.{Controller}
use Rattle.target_decision.specs.declared.consequence.Consequence.{Consequence}
use Rattle.target_decision.specs.declared.consequence.Consequence.TheVariants as consequence
use Rattle.target_decision.specs.Begin.{bytes_at, entry_at, row_by}
use Rattle.target_decision.specs.World.{World}
use Rattle.target_history.specs.declared.end_cause.EndCause.{EndCause}
use Rattle.target_history.specs.declared.end_cause.EndCause.TheVariants as cause
use Rattle.target_history.specs.EndCause.{cause_edited, ends_controller, ends_row, ends_timer, is_barred}
use Rattle.target_history.specs.Event.{Event, edited, opened, stepped, given_up, ticked}
use Rattle.target_history.specs.Occurrence.{Occurrence, consequence_of, config_after, cause_of, ends_live, port_met, ready_after, row_after, row_changed, row_kept, row_left}
use Rattle.target_history.specs.History.{Opening, config_of, controller_of, happened, meets_after, row_of}
use Rattle.target_history.specs.Laws.{LiveArePermitted}
use Rattle.target_history.proofs.Begun.{BegunBy, event_begun}
use Rattle.target_history.proofs.Lives.{row_step}
use Rattle.target_history.proofs.Tests.{neither}

-- the host of a controller, where one is there, may use its subsystem
abbrev Permitted : Configuration → Option Row → Type 0
Permitted config None = Unit {0}
Permitted config (Some row) = is_permitted config row ≡ true

-- ---- what stays of a row

kept_permitted : (e : EndCause) (config : Configuration) (c : ℕ) (row : Row) → is_permitted config row ≡ true → is_permitted config (row_kept e c row) ≡ true
kept_permitted (cause.Queue d q) config c row h = by (c == d) where
  by : (same : Bool) → is_permitted config (if same then left q row else row) ≡ true
  by true = h
  by false = h
kept_permitted (cause.Reset d) config c row h = by (c == d) where
  by : (same : Bool) → is_permitted config (if same then left_all row else row) ≡ true
  by true = h
  by false = h
kept_permitted _ config c row h = h

left_permitted : (gone : Bool) (e : EndCause) (config : Configuration) (c : ℕ) (o : Option Row) → (gone ≡ false → Permitted config o)
    → Permitted config (if gone then None else option_map (row_kept e c) o)
left_permitted true e config c o h = tt
left_permitted false e config c None h = tt
left_permitted false e config c (Some row) h = kept_permitted e config c row (h refl)

-- a change of its queues, or of whether it is ready
same_permitted : (f : Row → Row) (config : Configuration) (o : Option Row) → ((row : Row) → is_permitted config row ≡ true → is_permitted config (f row) ≡ true)
    → Permitted config o → Permitted config (option_map f o)
same_permitted f config None keeps h = tt
same_permitted f config (Some row) keeps h = keeps row h

either_permitted : (test : Bool) (config : Configuration) (o p : Option Row) → Permitted config o → Permitted config p
    → Permitted config (if test then o else p)
either_permitted true config o p h k = h
either_permitted false config o p h k = k

changed_permitted : (ch : Consequence) (begun : Option Row) (own : Option Controller) (config : Configuration) (c : ℕ) (o : Option Row)
    → Permitted config begun → Permitted config o → Permitted config (row_changed ch begun own c o)
changed_permitted (consequence.Begin b) begun own config c o new h = either_permitted (c == b.controller.cntlid) config begun o new h
changed_permitted (consequence.Join j) begun own config c o new h =
    either_permitted (c == j.cntlid) config (option_map (joined j.qid) o) o (same_permitted (joined j.qid) config o (λ row k. k) h) h
changed_permitted (consequence.Update d u) begun own config c o new h =
    either_permitted (c == d) config (option_map (with_ready (ready_after u own)) o) o
    (same_permitted (with_ready (ready_after u own)) config o (λ row k. k) h) h
changed_permitted _ begun own config c o new h = h

-- ---- what an edit leaves

flipped_false : (b : Bool) → not b ≡ false → b ≡ true
flipped_false true h = refl
flipped_false false h = cc

used : (config : Configuration) (host : List ℕ) (subsystem : Option (List ℕ)) (port : ℕ) → is_barred config host subsystem port ≡ false
    → may_use_named config host subsystem port ≡ true
used config host None port h = refl
used config host (Some nqn) port h = flipped_false (may_use config host nqn port) h

row_stays : (edit : Edit) (config : Configuration) (c : ℕ) (row : Row) → ends_row (cause_edited edit) config c row ≡ false → is_permitted config row ≡ true
row_stays (PortDel id) config c row h =
    used config row.host row.subsystem row.port (neither (id == row.port) (is_barred config row.host row.subsystem row.port) h).1
row_stays _ config c row h = used config row.host row.subsystem row.port h

edit_leaves : (edit : Edit) (config : Configuration) (c : ℕ) (o : Option Row) (own : Option Controller)
    → ends_controller (cause_edited edit) config c o own ≡ false → Permitted config o
edit_leaves edit config c None own h = tt
edit_leaves edit config c (Some row) own h =
    row_stays edit config c row (neither (ends_row (cause_edited edit) config c row) (ends_timer (cause_edited edit) own) h).0

-- ---- what a Connect begins

begun_permitted : (ch : Consequence) (w : World) (port : ℕ) (front : Front) → BegunBy w port (entry_at front) (bytes_at front) ch
    → Permitted w.config (row_by ch port front)
begun_permitted (consequence.Begin b) w port front h = beginnings_are_permitted.permitted w.config w.row port (entry_at front) (bytes_at front) b.controller h
begun_permitted _ w port front h = tt

-- ---- one more event

event_permitted : (disks : Opening) (before : List Occurrence) (event : Event) (c : ℕ) → Permitted (config_of disks before) (row_of before c)
    → Permitted (config_after event (config_of disks before)) (row_after (meets_after disks before event) c (row_of before c))
event_permitted disks before (edited edit) c h =
    let x = meets_after disks before (edited edit) in
    let config = config_after (edited edit) (config_of disks before) in
    left_permitted (ends_live x c) (cause_of x) config c (row_of before c) (edit_leaves edit config c (row_of before c) (controller_of before c))
event_permitted disks before (opened port n) c h =
    let x = meets_after disks before (opened port n) in
    left_permitted (ends_live x c) (cause_of x) (config_of disks before) c (row_of before c) (λ stays. h)
event_permitted disks before (given_up n) c h =
    let x = meets_after disks before (given_up n) in
    left_permitted (ends_live x c) (cause_of x) (config_of disks before) c (row_of before c) (λ stays. h)
event_permitted disks before (ticked now) c h =
    let x = meets_after disks before (ticked now) in
    left_permitted (ends_live x c) (cause_of x) (config_of disks before) c (row_of before c) (λ stays. h)
event_permitted disks before (stepped n front m) c h =
    let x = meets_after disks before (stepped n front m) in
    changed_permitted (consequence_of x) (row_by (consequence_of x) (port_met x) front) (controller_of before c) (config_of disks before) c
    (row_left x c (row_of before c))
    (begun_permitted (consequence_of x) x.world (port_met x) front (event_begun x))
    (left_permitted (ends_live x c) (cause_of x) (config_of disks before) c (row_of before c) (λ stays. h))

all_permitted : (disks : Opening) (events : List Event) (c : ℕ) → Permitted (config_of disks (happened disks events)) (row_of (happened disks events) c)
all_permitted disks [] c = tt
all_permitted disks (event ∷ events) c =
    let before = happened disks events in
    subst (Permitted (config_after event (config_of disks before))) (sym (row_step (meets_after disks before event) before c refl))
    (event_permitted disks before event c (all_permitted disks events c))

pub live_are_permitted : LiveArePermitted
live_are_permitted = record {
  permitted = λ disks events c row lives. subst (Permitted (config_of disks (happened disks events))) lives (all_permitted disks events c);
}
