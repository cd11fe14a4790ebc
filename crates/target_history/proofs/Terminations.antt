-- A step ends its own connection by its own decision alone: of what a reply ends, a reset comes on the admin queue of its
-- controller, and ends I/O queues.
use Rattle.std.proofs.Common.{◌≡◌, ◌+◌, ℕ, Bool, true, false, not, ◌&&◌, ◌||◌, List, ◌∷◌, Option, Some, None, refl, sym, ap, ◌∙◌, inl, inr}
use Rattle.std.specs.Prelude.{if◌then◌else◌}
use Rattle.fabrics_connect.specs.declared.decision.AdmitAs.{AdmitAs}
use Rattle.fabrics_connect.specs.declared.decision.AdmitAs.TheVariants as admit
use Rattle.pdu_codec.specs.Sqe.{cid_of}
use Rattle.pdu_cut.specs.Front.{Front}
use Rattle.pdu_cut.specs.Pdu.{data_part}
use Rattle.property_regs.specs.declared.regs.Change.TheVariants as change
use Rattle.property_regs.specs.declared.regs.Change.{Change}
use Rattle.target_decision.specs.declared.consequence.ConfigurationSet.{ConfigurationSet}
use Rattle.target_decision.specs.declared.consequence.Consequence.{Consequence}
use Rattle.target_decision.specs.declared.consequence.Consequence.TheVariants as consequence
use Rattle.target_decision.specs.declared.consequence.Update.TheVariants as update
use Rattle.target_decision.specs.declared.decision.Decision.{Decision}
use Rattle.target_decision.specs.declared.decision.Decision.TheVariants as decision
use Rattle.admin_queue.specs.Notices.{NoticeState}
use Rattle.target_decision.specs.declared.session.ConnectionState.{ConnectionState}
use Rattle.target_decision.specs.declared.session.Role.{Role}
use Rattle.target_decision.specs.declared.session.Role.TheVariants.{Admin, Io}
use Rattle.target_decision.specs.declared.session.Session.{Session}
use Rattle.target_decision.specs.declared.session.Session.TheVariants.{Opened, Initialized, Connected, Ended}
use Rattle.target_decision.specs.Capsule.{command, owed}
use Rattle.target_decision.specs.Connect.{admitted}
use Rattle.target_decision.specs.Decision.{decide, entry_of}
use Rattle.target_decision.specs.Session.{is_ended, role_in}
use Rattle.target_decision.specs.Transfer.{Tags, head_in}
use Rattle.target_decision.specs.World.{World}
use Rattle.target_decision.proofs.Deciding.{command_is, decision_is, finished_is}
use Rattle.target_history.specs.declared.end_cause.EndCause.{EndCause}
use Rattle.target_history.specs.declared.end_cause.EndCause.TheVariants as cause
use Rattle.target_history.specs.EndCause.{cause_replied, cause_set, ends_by}
use Rattle.target_history.specs.Event.{Event, edited, front_in, opened, opens, stepped, steps, given_up, ticked}
use Rattle.target_history.specs.Occurrence.{Occurrence, consequence_decided, consequence_of, decided, decided_on, cause_of, cause_stepped, ends_at, ends_live, is_end_decided, terminates}
use Rattle.target_history.specs.History.{alignment_of, connection_of, has_ended, is_known, notices_of, port_of}
use Rattle.target_history.specs.Laws.{is_io_queue_of, role_at}
use Rattle.target_history.specs.Terminations.{EndedHaveNoTransfers, StepsEndTheirOwn}
use Rattle.target_history.proofs.Endings.{resets_end_their_queues_alone}
use Rattle.target_history.proofs.Roles.{none_gone, nothing_ends, own_is}
use Rattle.target_history.proofs.Tests.{bool_is, neither, same_number}

-- ---- a controller is changed by commands on its admin queue

abbrev pub UpdatesBy : Option Role → Consequence → Type 0
UpdatesBy role (consequence.Update d u) = role ≡ Some (Admin d)
UpdatesBy role _ = Unit {0}

abbrev Updates : Option Role → Decision → Type 0
Updates role (decision.Reply r) = UpdatesBy role r.consequence
Updates role _ = Unit {0}

abbrev UpdatesAt : Option Role → Option Decision → Type 0
UpdatesAt role None = Unit {0}
UpdatesAt role (Some d) = Updates role d

admitted_updates : (role : Option Role) (s : Session) (cid : ℕ) (a : AdmitAs) (entry : List ℕ) → Updates role (owed s cid None (admitted a entry))
admitted_updates role s cid (admit.Queue cntlid qid) entry = tt
admitted_updates role s cid (admit.Controller new) entry = tt

command_updates : (w : World) (v : ConnectionState) (tags : Tags) (cid : ℕ) (entry bytes : List ℕ)
    → Updates (role_in v.session) (owed v.session cid None (command w v tags entry bytes))
command_updates w v tags cid entry bytes =
    command_is w v entry bytes (λ o. Updates (role_in v.session) (owed v.session cid None o)) (record {
      refuses = λ r. tt;
      admits = λ none a is. admitted_updates (role_in v.session) v.session cid a entry;
      tells = λ value. tt;
      configures = λ cntlid role s. role;
      administers = λ cntlid role c own s is. role;
      waits = λ cntlid role c own is. tt;
      performs = λ cntlid qid role host port subsystem op is. tt;
      asks = λ cntlid qid role host port subsystem len is. tt;
    }) tags

decide_updates : (w : World) (v : ConnectionState) (tags : Tags) (front : Front) → Updates (role_in v.session) (decide w v tags front)
decide_updates w v tags front = decision_is w v tags front (Updates (role_in v.session)) (record {
  closes = tt;
  terminates = λ t. tt;
  initializes = λ opened alignment. tt;
  answers = λ pdu is kind room. command_updates w v tags (cid_of (entry_of pdu)) (entry_of pdu) (data_part pdu);
  receives = λ pdu part brings. tt;
  completes = λ pdu part brings.
      finished_is w part.command.entry ((head_in pdu).datao + (head_in pdu).datal)
      (λ o. Updates (role_in v.session) (owed v.session (head_in pdu).cccid (Some (head_in pdu).ttag) o)) v.session
      (record { refuses = λ status. tt; performs = λ cntlid qid role host port subsystem op is. tt });
})

decided_updates : (w : World) (tags : Tags) (o : Option ConnectionState) (front : Front) → UpdatesAt (role_at o) (decided_on w tags o front)
decided_updates w tags None front = tt
decided_updates w tags (Some v) front = by (is_ended v.session) where
  by : (over : Bool) → UpdatesAt (role_in v.session) (if over then None else Some (decide w v tags front))
  by true = tt
  by false = decide_updates w v tags front

own_updates : (x : Occurrence) (k : ℕ) → UpdatesAt (role_at (x.connection k)) (decided x k)
own_updates x k = by (steps x.event k) where
  by : (stepping : Bool) → UpdatesAt (role_at (x.connection k)) (if stepping then decided_on x.world (x.parts k) (x.connection k) (front_in x.event) else None)
  by true = decided_updates x.world (x.parts k) (x.connection k) (front_in x.event)
  by false = tt

-- ---- what a step that goes on ends

-- what a step ends is told by its own connection and its own decision
taken_by : (event : Event) (w : World) (connection : ℕ → Option ConnectionState) (parts : ℕ → Tags) (clock : ℕ) (blocks : ℕ → List (List ℕ)) (k : ℕ) → steps event k ≡ true
    → let x : Occurrence = record { event = event; world = w; connection = connection; parts = parts; clock = clock; blocks = blocks } in
    cause_of x ≡ cause_stepped (x.connection k) (decided x k)
taken_by (edited edit) w connection parts clock blocks k h = cc
taken_by (opened port n) w connection parts clock blocks k h = cc
taken_by (given_up n) w connection parts clock blocks k h = cc
taken_by (ticked now) w connection parts clock blocks k h = cc
taken_by (stepped n front m) w connection parts clock blocks k h =
    rw h (ap (λ (j : ℕ). cause_stepped (connection j) (decided_on w (parts j) (connection j) front)) (sym (same_number k n h)))

taken_is : (x : Occurrence) (k : ℕ) → steps x.event k ≡ true → cause_of x ≡ cause_stepped (x.connection k) (decided x k)
taken_is x k h = taken_by x.event x.world x.connection x.parts x.clock x.blocks k h

-- nothing ends no connection
nothing_at : (x : Occurrence) (o : Option ConnectionState) → cause_of x ≡ cause.Nothing → ends_at x o ≡ false
nothing_at x None is = refl
nothing_at x (Some v) is =
    let none : ends_by cause.Nothing (ends_live x) v ≡ false = none_gone (ends_live x) v.session (λ c. nothing_ends x c is) in
    ap (λ (e : EndCause). ends_by e (ends_live x) v) is ∙ none

admin_no_io : (c : ℕ) (s : Session) → role_in s ≡ Some (Admin c) → is_io_queue_of c s ≡ false
admin_no_io c Opened is = refl
admin_no_io c Initialized is = refl
admin_no_io c (Connected (Admin d) queue) is = refl
admin_no_io c (Connected (Io d q) queue) is = cc
admin_no_io c Ended is = refl

-- a Property Set ends no connection that it came on
set_at : (x : Occurrence) (k : ℕ) (v : ConnectionState) (d : ℕ) (s : ConfigurationSet) → x.connection k ≡ Some v
    → consequence_of x ≡ consequence.Update d (update.Configuration s) → role_in v.session ≡ Some (Admin d)
    → cause_of x ≡ cause_set s.change d → ends_at x (x.connection k) ≡ false
set_at x k v d s met makes own is = by s.change refl where
  set_ends : (e : Change) → s.change ≡ e → cause_of x ≡ cause_set e d
  set_ends e same = is ∙ ap (λ (f : Change). cause_set f d) same

  by : (e : Change) → s.change ≡ e → ends_at x (x.connection k) ≡ false
  by change.Reset same =
      let io = resets_end_their_queues_alone.connections x d s k v makes same met in
      (neither (terminates x k) (ends_at x (x.connection k)) (io ∙ admin_no_io d v.session own)).1
  by change.Enable same = nothing_at x (x.connection k) (set_ends change.Enable same)
  by change.Shutdown same = nothing_at x (x.connection k) (set_ends change.Shutdown same)
  by change.Stay same = nothing_at x (x.connection k) (set_ends change.Stay same)

-- nor does any other reply
replied_at : (x : Occurrence) (k : ℕ) (v : ConnectionState) (ch : Consequence) → x.connection k ≡ Some v → consequence_of x ≡ ch
    → UpdatesBy (role_in v.session) ch → cause_of x ≡ cause_replied ch → ends_at x (x.connection k) ≡ false
replied_at x k v (consequence.Update d (update.Configuration s)) met makes own is = set_at x k v d s met makes own is
replied_at x k v (consequence.Update d (update.Command e)) met makes own is = nothing_at x (x.connection k) is
replied_at x k v _ met makes own is = nothing_at x (x.connection k) is

-- a step that does not end its own connection does not end it from elsewhere
goes_on : (x : Occurrence) (k : ℕ) → steps x.event k ≡ true → terminates x k ≡ false → ends_at x (x.connection k) ≡ false
goes_on x k stepping going = by (x.connection k) (decided x k) refl refl (own_updates x k) where
  taken : (o : Option ConnectionState) (d : Option Decision) → x.connection k ≡ o → decided x k ≡ d → cause_of x ≡ cause_stepped o d
  taken o d met is =
      taken_is x k stepping ∙ ap (λ (p : Option ConnectionState). cause_stepped p (decided x k)) met ∙ ap (λ (e : Option Decision). cause_stepped o e) is

  makes : (d : Option Decision) → decided x k ≡ d → consequence_of x ≡ consequence_decided d
  makes d is = ap consequence_decided (sym (own_is x k stepping) ∙ is)

  cause_decided_so : (d : Option Decision) → decided x k ≡ d → is_end_decided d ≡ false
  cause_decided_so d is = ap is_end_decided (sym is) ∙ going

  by : (o : Option ConnectionState) (d : Option Decision) → x.connection k ≡ o → decided x k ≡ d → UpdatesAt (role_at o) d → ends_at x (x.connection k) ≡ false
  by None d met is sets = ap (λ (o : Option ConnectionState). ends_at x o) met
  by (Some v) None met is sets = nothing_at x (x.connection k) (taken (Some v) None met is)
  by (Some v) (Some (decision.Initialize alignment)) met is sets = nothing_at x (x.connection k) (taken (Some v) (Some (decision.Initialize alignment)) met is)
  by (Some v) (Some (decision.Request q)) met is sets = nothing_at x (x.connection k) (taken (Some v) (Some (decision.Request q)) met is)
  by (Some v) (Some (decision.Receive ttag)) met is sets = nothing_at x (x.connection k) (taken (Some v) (Some (decision.Receive ttag)) met is)
  by (Some v) (Some (decision.Wait cid)) met is sets = nothing_at x (x.connection k) (taken (Some v) (Some (decision.Wait cid)) met is)
  by (Some v) (Some (decision.Reply r)) met is sets =
      replied_at x k v r.consequence met (makes (Some (decision.Reply r)) is) sets (taken (Some v) (Some (decision.Reply r)) met is)
  by (Some v) (Some (decision.Terminate t)) met is sets = let over : true ≡ false = cause_decided_so (Some (decision.Terminate t)) is in cc
  by (Some v) (Some decision.Close) met is sets = let over : true ≡ false = cause_decided_so (Some decision.Close) is in cc

-- ---- ended connections

none_at : (stepping known : Bool) (w : World) (tags : Tags) (port alignment : ℕ) (notices : NoticeState) (front : Front)
    → (if stepping then decided_on w tags (if known then Some (record { port = port; session = Ended; alignment = alignment; notices = notices }) else None) front else None) ≡ None
none_at true true w tags port alignment notices front = refl
none_at true false w tags port alignment notices front = refl
none_at false known w tags port alignment notices front = refl

ended_met : (x : Occurrence) (before : List Occurrence) (k : ℕ) → x.connection k ≡ connection_of before k → has_ended before k ≡ true
    → x.connection k ≡ (if is_known before k then Some (record { port = port_of before k; session = Ended; alignment = alignment_of before k; notices = notices_of before k }) else None)
ended_met x before k met ended = met ∙ rw ended refl

-- no step ends a connection that is ended
ended_goes_on : (x : Occurrence) (before : List Occurrence) (k : ℕ) → x.connection k ≡ connection_of before k → has_ended before k ≡ true
    → terminates x k ≡ false
ended_goes_on x before k met ended =
    let none : decided x k ≡ None =
    ap (λ (o : Option ConnectionState). if steps x.event k then decided_on x.world (x.parts k) o (front_in x.event) else None) (ended_met x before k met ended)
    ∙ none_at (steps x.event k) (is_known before k) x.world (x.parts k) (port_of before k) (alignment_of before k) (notices_of before k) (front_in x.event) in
    ap is_end_decided none

steps_own : (stepping : Bool) (d : Option Decision) → is_end_decided (if stepping then d else None) ≡ true → stepping ≡ true
steps_own true d h = refl
steps_own false d h = cc

no_open : (event : Event) (k : ℕ) → steps event k ≡ true → opens event k ≡ false
no_open (edited edit) k h = cc
no_open (opened port n) k h = cc
no_open (given_up n) k h = cc
no_open (ticked now) k h = cc
no_open (stepped n front m) k h = refl

-- ---- the law

after_true : (opening own other before : Bool) → opening ≡ false → own ≡ true → (not opening && ((own || other) || before)) ≡ true
after_true true own other before h i = cc
after_true false true other before h i = refl
after_true false false other before h i = cc

after_same : (opening own other before : Bool) → opening ≡ false → own ≡ false → other ≡ false → (not opening && ((own || other) || before)) ≡ before
after_same true own other before h i j = cc
after_same false true other before h i j = cc
after_same false false true before h i j = cc
after_same false false false before h i j = refl

other_is : (opening own other before : Bool) → own ≡ false → before ≡ false → (not opening && ((own || other) || before)) ≡ true → other ≡ true
other_is true own other before h i j = cc
other_is false true other before h i j = cc
other_is false false true before h i j = refl
other_is false false false before h i j = sym i ∙ j

stays_so : (x : Occurrence) (before : List Occurrence) (k : ℕ) → steps x.event k ≡ true → terminates x k ≡ false
    → has_ended (x ∷ before) k ≡ has_ended before k
stays_so x before k stepping going =
    after_same (opens x.event k) (terminates x k) (ends_at x (x.connection k)) (has_ended before k) (no_open x.event k stepping) going (goes_on x k stepping going)

pub steps_end_their_own : StepsEndTheirOwn
steps_end_their_own = record {
  ended = λ x before k met ends. (
    elim (bool_is (has_ended before k)) [
      | inl over ↦ let clash : true ≡ false = sym ends ∙ ended_goes_on x before k met over in cc
      | inr not_over ↦ not_over
    ],
    after_true (opens x.event k) (terminates x k) (ends_at x (x.connection k)) (has_ended before k)
        (no_open x.event k (steps_own (steps x.event k) (decided_on x.world (x.parts k) (x.connection k) (front_in x.event)) ends)) ends,
  );
  stays = stays_so;
  elsewhere = λ x before k opening going before_is after_is. (
    elim (bool_is (steps x.event k)) [
      | inl stepping ↦ let clash : true ≡ false = sym after_is ∙ stays_so x before k stepping going ∙ before_is in cc
      | inr other ↦ other
    ],
    other_is (opens x.event k) (terminates x k) (ends_at x (x.connection k)) (has_ended before k) going before_is after_is,
  );
}

-- ---- transfers

pub ended_have_no_transfers : EndedHaveNoTransfers
ended_have_no_transfers = record { none = λ disks events k ttag ended. rw ended refl }
