-- What ends connections and controllers: resets, edits and the clock.
use Rattle.std.proofs.Common.{◌≡◌, ◌⊎◌, ℕ, Bool, true, false, List, [], ◌∷◌, Option, Some, None, refl, sym, ap, ◌∙◌, inl, inr}
use Rattle.std.specs.Prelude.{if◌then◌else◌, ◌==◌, ◌||◌}
use Rattle.config_lists.specs.declared.edit.Edit.{Edit}
use Rattle.config_lists.specs.declared.edit.Edit.TheVariants.{PortDel}
use Rattle.nvt_config.specs.Configuration.{Configuration}
use Rattle.fabrics_connect.specs.declared.row.Row.{Row}
use Rattle.fabrics_connect.specs.Permitted.{is_permitted, may_use_named}
use Rattle.pdu_cut.specs.Front.{Front}
use Rattle.property_regs.specs.declared.regs.Change.TheVariants as change
use Rattle.property_regs.specs.declared.regs.Change.{Change}
use Rattle.target_decision.specs.declared.controller.Controller.{Controller}
use Rattle.target_decision.specs.declared.consequence.Consequence.{Consequence}
use Rattle.target_decision.specs.declared.consequence.ConfigurationSet.{ConfigurationSet}
use Rattle.target_decision.specs.declared.consequence.Consequence.TheVariants as consequence
use Rattle.target_decision.specs.declared.consequence.Update.{Update}
use Rattle.target_decision.specs.declared.consequence.Update.TheVariants as update
use Rattle.target_decision.specs.declared.decision.Decision.{Decision}
use Rattle.target_decision.specs.declared.decision.Decision.TheVariants as decision
use Rattle.target_decision.specs.declared.session.ConnectionState.{ConnectionState}
use Rattle.target_decision.specs.declared.session.Role.TheVariants.{Admin, Io}
use Rattle.target_decision.specs.declared.session.Session.{Session}
use Rattle.target_decision.specs.declared.session.Session.TheVariants.{Connected}
use Rattle.target_decision.specs.Controller.{restarts}
use Rattle.target_decision.specs.Transfer.{Tags}
use Rattle.target_decision.specs.World.{World}
use Rattle.target_history.specs.declared.end_cause.EndCause.{EndCause}
use Rattle.target_history.specs.declared.end_cause.EndCause.TheVariants as cause
use Rattle.target_history.specs.EndCause.{cause_edited, cause_lost, cause_replied, cause_set, ends_by, ends_row, ends_row_at, ends_session, ends_timer, is_barred}
use Rattle.target_history.specs.Event.{Event, edited, front_in, opened, stepped, steps, given_up, ticked}
use Rattle.target_history.specs.Occurrence.{Occurrence, Start, begins, begins_by, consequence_decided, consequence_of, decided, decided_on, decision_of, cause_by, cause_given_up, cause_of, cause_stepped, ends_live, is_end_decided, row_kept, started, stepping, stepping_tags, updates}
use Rattle.target_history.specs.History.{Opening, clock_of, config_of, happened, mark_of, meets_after, part_after, row_of}
use Rattle.target_history.specs.Laws.{EditsEndControllers, NothingExpiresWithoutTicks, ResetsEndTheirQueuesAlone, deletes, has_ticks, is_io_queue_of, is_tick}
use Rattle.target_history.proofs.Lives.{row_step}
use Rattle.target_history.proofs.Tests.{either_false, neither, other_true, same_number}

-- ---- the connection that an event steps

pub decided_is : (event : Event) (w : World) (parts : ℕ → Tags) (connection : ℕ → Option ConnectionState) (k : ℕ) → steps event k ≡ true
    → decided_on w (parts k) (connection k) (front_in event) ≡ decided_on w (stepping_tags event parts) (stepping event connection) (front_in event)
decided_is (edited edit) w parts connection k h = cc
decided_is (opened port n) w parts connection k h = cc
decided_is (given_up n) w parts connection k h = cc
decided_is (ticked now) w parts connection k h = cc
decided_is (stepped n front m) w parts connection k h = ap (λ (j : ℕ). decided_on w (parts j) (connection j) front) (same_number k n h)

-- ---- a reset

taken_is : (o : Option ConnectionState) (w : World) (tags : Tags) (front : Front) (d : Option Decision) (ch : Consequence) → decided_on w tags o front ≡ d
    → consequence_decided d ≡ ch → (ch ≡ consequence.Nothing → ⊥) → cause_stepped o d ≡ cause_replied ch
taken_is None w tags front d ch is h changes = absurd (changes (sym h ∙ ap consequence_decided (sym is)))
taken_is (Some v) w tags front None ch is h changes = absurd (changes (sym h))
taken_is (Some v) w tags front (Some (decision.Initialize alignment)) ch is h changes = absurd (changes (sym h))
taken_is (Some v) w tags front (Some (decision.Request q)) ch is h changes = absurd (changes (sym h))
taken_is (Some v) w tags front (Some (decision.Receive ttag)) ch is h changes = absurd (changes (sym h))
taken_is (Some v) w tags front (Some (decision.Wait cid)) ch is h changes = absurd (changes (sym h))
taken_is (Some v) w tags front (Some (decision.Reply r)) ch is h changes = ap cause_replied h
taken_is (Some v) w tags front (Some (decision.Terminate t)) ch is h changes = absurd (changes (sym h))
taken_is (Some v) w tags front (Some decision.Close) ch is h changes = absurd (changes (sym h))

cause_by_is : (event : Event) (w : World) (parts : ℕ → Tags) (connection : ℕ → Option ConnectionState) (clock : ℕ) (ch : Consequence)
    → consequence_decided (decided_on w (stepping_tags event parts) (stepping event connection) (front_in event)) ≡ ch → (ch ≡ consequence.Nothing → ⊥)
    → cause_by event connection (decided_on w (stepping_tags event parts) (stepping event connection) (front_in event)) clock ≡ cause_replied ch
cause_by_is (edited edit) w parts connection clock ch h changes = absurd (changes (sym h))
cause_by_is (opened port n) w parts connection clock ch h changes = absurd (changes (sym h))
cause_by_is (given_up n) w parts connection clock ch h changes = absurd (changes (sym h))
cause_by_is (ticked now) w parts connection clock ch h changes = absurd (changes (sym h))
cause_by_is (stepped n front m) w parts connection clock ch h changes =
    taken_is (connection n) w (parts n) front (decided_on w (parts n) (connection n) front) ch refl h changes

-- what an event ends where something follows from its reply, by that alone
pub reply_ends : (x : Occurrence) (ch : Consequence) → consequence_of x ≡ ch → (ch ≡ consequence.Nothing → ⊥) → cause_of x ≡ cause_replied ch
reply_ends x ch h changes = cause_by_is x.event x.world x.parts x.connection x.clock ch h changes

reset_ends : (x : Occurrence) (d : ℕ) (s : ConfigurationSet) → consequence_of x ≡ consequence.Update d (update.Configuration s) → s.change ≡ change.Reset
    → cause_of x ≡ cause.Reset d
reset_ends x d s h resets = reply_ends x (consequence.Update d (update.Configuration s)) h (λ is. cc) ∙ ap (λ (e : Change). cause_set e d) resets

no_end : (d : Option Decision) (c : ℕ) (u : Update) → consequence_decided d ≡ consequence.Update c u → is_end_decided d ≡ false
no_end (Some (decision.Terminate t)) c u h = cc
no_end (Some decision.Close) c u h = cc
no_end _ c u h = refl

-- no step that changes a controller ends its own connection
goes_on : (x : Occurrence) (k c : ℕ) (u : Update) → consequence_of x ≡ consequence.Update c u → is_end_decided (decided x k) ≡ false
goes_on x k c u h = by (steps x.event k) refl where
  by : (stepping : Bool) → steps x.event k ≡ stepping
      → is_end_decided (if stepping then decided_on x.world (x.parts k) (x.connection k) (front_in x.event) else None) ≡ false
  by true is = ap is_end_decided (decided_is x.event x.world x.parts x.connection k is) ∙ no_end (decision_of x) c u h
  by false is = refl

no_row_reset : (c d : ℕ) (config : Configuration) (o : Option Row) → ends_row_at (cause.Reset c) config d o ≡ false
no_row_reset c d config None = refl
no_row_reset c d config (Some row) = refl

none_reset : (x : Occurrence) (c d : ℕ) → cause_of x ≡ cause.Reset c → ends_live x d ≡ false
none_reset x c d is = rw (is, no_row_reset c d) refl

session_reset : (c : ℕ) (gone : ℕ → Bool) (session : Session) → ((d : ℕ) → gone d ≡ false)
    → ends_session (cause.Reset c) gone session ≡ is_io_queue_of c session
session_reset c gone (Connected (Admin d) queue) none = none d
session_reset c gone (Connected (Io d q) queue) none = rw (none d) refl
session_reset c gone _ none = refl

pub resets_end_their_queues_alone : ResetsEndTheirQueuesAlone
resets_end_their_queues_alone = record {
  connections = λ x d s k v sets resets met.
      let is : cause_of x ≡ cause.Reset d = reset_ends x d s sets resets in
      let here : ends_by (cause.Reset d) (ends_live x) v ≡ is_io_queue_of d v.session =
      session_reset d (ends_live x) v.session (λ c. none_reset x d c is) in
      rw (goes_on x k d (update.Configuration s) sets, met) (ap (λ (e : EndCause). ends_by e (ends_live x) v) is ∙ here);
  controllers = λ x d s c sets resets. none_reset x d c (reset_ends x d s sets resets);
}

-- ---- an edit

pub edit_is : (edit : Edit) → (cause_edited edit ≡ cause.Permission) ⊎ ((id : ℕ) × (edit ≡ PortDel id))
edit_is (PortDel id) = inr (id, refl)
edit_is _ = inl refl

not_barred : (config : Configuration) (host : List ℕ) (subsystem : Option (List ℕ)) (port : ℕ) → may_use_named config host subsystem port ≡ true
    → is_barred config host subsystem port ≡ false
not_barred config host None port h = refl
not_barred config host (Some nqn) port h = rw h refl

pub row_outlives : (edit : Edit) (config : Configuration) (c : ℕ) (row : Row) → deletes edit row.port ≡ false → is_permitted config row ≡ true
    → ends_row (cause_edited edit) config c row ≡ false
row_outlives edit config c row port permitted =
    elim (edit_is edit) [
      | inl other ↦ rw other (not_barred config row.host row.subsystem row.port permitted)
      | inr (id, is) ↦
          let stays : (id == row.port) ≡ false = ap (λ (e : Edit). deletes e row.port) (sym is) ∙ port in
          ap (λ (e : Edit). ends_row (cause_edited e) config c row) is
          ∙ either_false (id == row.port) (is_barred config row.host row.subsystem row.port) stays
          (not_barred config row.host row.subsystem row.port permitted)
    ]

pub no_timer : (edit : Edit) (o : Option Controller) → ends_timer (cause_edited edit) o ≡ false
no_timer edit o =
    elim (edit_is edit) [
      | inl other ↦ rw other refl
      | inr (id, is) ↦ ap (λ (e : Edit). ends_timer (cause_edited e) o) is
    ]

pub kept_whole : (edit : Edit) (c : ℕ) (row : Row) → row_kept (cause_edited edit) c row ≡ row
kept_whole edit c row =
    elim (edit_is edit) [
      | inl other ↦ rw other refl
      | inr (id, is) ↦ ap (λ (e : Edit). row_kept (cause_edited e) c row) is
    ]

deleted_ends : (edit : Edit) (config : Configuration) (c : ℕ) (row : Row) → deletes edit row.port ≡ true → ends_row (cause_edited edit) config c row ≡ true
deleted_ends (PortDel id) config c row h = ap (λ (b : Bool). b || is_barred config row.host row.subsystem row.port) h
deleted_ends _ config c row h = cc

barred_is : (config : Configuration) (host : List ℕ) (subsystem : Option (List ℕ)) (port : ℕ) → may_use_named config host subsystem port ≡ false
    → is_barred config host subsystem port ≡ true
barred_is config host None port h = cc
barred_is config host (Some nqn) port h = rw h refl

barred_ends : (edit : Edit) (config : Configuration) (c : ℕ) (row : Row) → is_permitted config row ≡ false
    → ends_row (cause_edited edit) config c row ≡ true
barred_ends (PortDel id) config c row h =
    other_true (id == row.port) (is_barred config row.host row.subsystem row.port) (barred_is config row.host row.subsystem row.port h)
barred_ends _ config c row h = barred_is config row.host row.subsystem row.port h

-- a controller whose row an edit ends is gone
edit_ends : (disks : Opening) (events : List Event) (edit : Edit) (c : ℕ) (row : Row) → row_of (happened disks events) c ≡ Some row
    → ends_row (cause_edited edit) (config_of disks (happened disks (edited edit ∷ events))) c row ≡ true
    → row_of (happened disks (edited edit ∷ events)) c ≡ None
edit_ends disks events edit c row lives h =
    let before = happened disks events in
    row_step (meets_after disks before (edited edit)) before c refl ∙ rw (lives, h) refl

pub edits_end_controllers : EditsEndControllers
edits_end_controllers = record {
  deleted = λ disks events edit c row lives h. edit_ends disks events edit c row lives (deleted_ends edit _ c row h);
  barred = λ disks events edit c row lives h. edit_ends disks events edit c row lives (barred_ends edit _ c row h);
}

-- ---- without ticks

tickless : (event : Event) (events : List Event) → has_ticks (event ∷ events) ≡ false → (is_tick event ≡ false) × (has_ticks events ≡ false)
tickless event events h = neither (is_tick event) (has_ticks events) h

clock_stays : (disks : Opening) (events : List Event) → has_ticks events ≡ false → clock_of (happened disks events) ≡ 0
clock_stays disks [] h = refl
clock_stays disks (ticked now ∷ events) h = cc
clock_stays disks (_ ∷ events) h = clock_stays disks events h

-- what begins has the clock of then
begun_now : (x : Occurrence) (ch : Consequence) (c : ℕ) (s : Start) → begins_by x ch c ≡ Some s → s.clock ≡ x.clock
begun_now x (consequence.Begin b) c s h = by (c == b.controller.cntlid) h where
  by : (same : Bool) → (if same then Some (started x b) else None) ≡ Some s → s.clock ≡ x.clock
  by true is =
      let here : started x b ≡ s = cc in
      ap (λ (t : Start). t.clock) (sym here)
  by false is = cc
begun_now x _ c s h = cc

mark_stays : (disks : Opening) (events : List Event) (c : ℕ) → has_ticks events ≡ false → mark_of (happened disks events) c ≡ 0
mark_stays disks [] c h = refl
mark_stays disks (event ∷ events) c h =
    let earlier = (tickless event events h).1 in
    let x = meets_after disks (happened disks events) event in
    by (begins x c) (updates x c) refl (clock_stays disks events earlier) (mark_stays disks events c earlier) where
      now : ℕ
      now = clock_of (happened disks events)

      restarted : (starts : Bool) (mark : ℕ) → now ≡ 0 → mark ≡ 0 → (if starts then now else mark) ≡ 0
      restarted true mark clock is = clock
      restarted false mark clock is = is

      by : (b : Option Start) (u : Option Update) → begins (meets_after disks (happened disks events) event) c ≡ b → now ≡ 0
          → mark_of (happened disks events) c ≡ 0
          → part_after (λ (s : Start). s.clock) (λ (u : Update) (m : ℕ). if restarts u then now else m) b u (mark_of (happened disks events) c) ≡ 0
      by (Some s) u is clock mark =
          begun_now (meets_after disks (happened disks events) event) (consequence_of (meets_after disks (happened disks events) event)) c s is ∙ clock
      by None (Some u) is clock mark = restarted (restarts u) (mark_of (happened disks events) c) clock mark
      by None None is clock mark = mark

lost_no_timer : (s : Session) (o : Option Controller) → ends_timer (cause_lost s) o ≡ false
lost_no_timer (Connected (Admin c) queue) o = refl
lost_no_timer (Connected (Io c q) queue) o = refl
lost_no_timer _ o = refl

set_no_timer : (c : ℕ) (e : Change) (o : Option Controller) → ends_timer (cause_set e c) o ≡ false
set_no_timer c change.Reset o = refl
set_no_timer c _ o = refl

reply_no_timer : (ch : Consequence) (o : Option Controller) → ends_timer (cause_replied ch) o ≡ false
reply_no_timer (consequence.Update c (update.Configuration s)) o = set_no_timer c s.change o
reply_no_timer (consequence.Update c (update.Command e)) o = refl
reply_no_timer _ o = refl

taken_no_timer : (v : Option ConnectionState) (d : Option Decision) (o : Option Controller) → ends_timer (cause_stepped v d) o ≡ false
taken_no_timer None d o = refl
taken_no_timer (Some v) None o = refl
taken_no_timer (Some v) (Some (decision.Initialize alignment)) o = refl
taken_no_timer (Some v) (Some (decision.Request q)) o = refl
taken_no_timer (Some v) (Some (decision.Receive ttag)) o = refl
taken_no_timer (Some v) (Some (decision.Wait cid)) o = refl
taken_no_timer (Some v) (Some (decision.Reply r)) o = reply_no_timer r.consequence o
taken_no_timer (Some v) (Some (decision.Terminate t)) o = lost_no_timer v.session o
taken_no_timer (Some v) (Some decision.Close) o = lost_no_timer v.session o

given_up_no_timer : (v : Option ConnectionState) (o : Option Controller) → ends_timer (cause_given_up v) o ≡ false
given_up_no_timer None o = refl
given_up_no_timer (Some v) o = lost_no_timer v.session o

no_timer_by : (event : Event) (connection : ℕ → Option ConnectionState) (d : Option Decision) (clock : ℕ) (o : Option Controller) → is_tick event ≡ false
    → ends_timer (cause_by event connection d clock) o ≡ false
no_timer_by (edited edit) connection d clock o h = no_timer edit o
no_timer_by (opened port n) connection d clock o h = refl
no_timer_by (stepped n front m) connection d clock o h = taken_no_timer (connection n) d o
no_timer_by (given_up n) connection d clock o h = given_up_no_timer (connection n) o
no_timer_by (ticked now) connection d clock o h = cc

pub nothing_expires_without_ticks : NothingExpiresWithoutTicks
nothing_expires_without_ticks = record {
  clock = clock_stays;
  mark = mark_stays;
  timers = λ disks events event controller h.
      let x = meets_after disks (happened disks events) event in
      no_timer_by event x.connection (decision_of x) x.clock controller (tickless event events h).0;
}
