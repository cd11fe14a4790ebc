-- What stays true of a connection that an event neither opens, gives up nor is a step of.
use Rattle.std.proofs.Common.{◌≡◌, ◌≢◌, ℕ, zero, suc, min, Bool, true, false, ◌||◌, List, [], ◌++◌, length, take, drop, Option, Some, None, Result, is_some, refl, sym, ap, ◌∙◌, inl, inr, arith, true≢false}
use Rattle.std.specs.Prelude.{◌==◌, if◌then◌else◌}
use Rattle.std.specs.Option.{option_map}
use Rattle.std.proofs.lemmas.Bool.{cases_eq}
use Rattle.std.proofs.lemmas.Bool.Decides.{nat_tests}
use Rattle.std.proofs.lemmas.List.{get_or-set_other}
use Rattle.config_lists.specs.declared.edit.Edit.{Edit}
use Rattle.nvt_config.specs.Configuration.{Configuration}
use Rattle.io_queue.specs.Act.{DiskOutcome}
use Rattle.tables.specs.NumberTable.{place}
use Rattle.tables.proofs.NumberTables.{place-with_value_held}
use Rattle.pdu_cut.specs.declared.side.Side.TheVariants.{Target}
use Rattle.pdu_cut.specs.Front.{Front, front}
use Rattle.property_regs.specs.declared.regs.Change.{Change}
use Rattle.property_regs.specs.declared.regs.Change.TheVariants as change
use Rattle.target_core.specs.declared.fault.NoConn.{NoConn}
use Rattle.target_core.specs.Connection.{KnownConnection}
use Rattle.target_core.specs.Transition.{Transition, known_moved}
use Rattle.target_core.specs.Target.{ReceivesAt, TakenAt, TargetState, is_ended_at, is_incomplete, meets, room_at, room_of}
use Rattle.target_decision.specs.declared.consequence.Consequence.{Consequence}
use Rattle.target_decision.specs.declared.consequence.Consequence.TheVariants as consequence
use Rattle.target_decision.specs.declared.consequence.Update.{Update}
use Rattle.target_decision.specs.declared.consequence.Update.TheVariants as update
use Rattle.target_decision.specs.declared.controller.Controller.{Controller}
use Rattle.target_decision.specs.declared.decision.Decision.{Decision}
use Rattle.target_decision.specs.declared.decision.Decision.TheVariants as decision
use Rattle.target_decision.specs.declared.session.ConnectionState.{ConnectionState}
use Rattle.target_decision.specs.declared.session.Role.TheVariants.{Admin, Io}
use Rattle.target_decision.specs.declared.session.Session.{Session}
use Rattle.target_decision.specs.declared.session.Session.TheVariants as session
use Rattle.target_decision.specs.Session.{is_ended, role_in}
use Rattle.fabrics_connect.specs.declared.row.Row.{Row}
use Rattle.target_history.specs.declared.end_cause.EndCause.{EndCause}
use Rattle.target_history.specs.declared.end_cause.EndCause.TheVariants as cause
use Rattle.target_history.specs.EndCause.{cause_decided, cause_lost, cause_replied, cause_set, cause_updated, ends_by, ends_controller, ends_session, is_on_port}
use Rattle.target_history.specs.Event.{disk_outcome_in, edited, front_in, given_up, opened, stepped, steps, ticked}
use Rattle.target_history.specs.Occurrence.{Occurrence, cause_of, cause_given_up, cause_stepped, config_after, edit_made, ends_live, replies_to, sends, sends_on, telling, telling_by, told_at, views_in}
use Rattle.target_core.specs.Steps.{is_idle_at}
use Rattle.nvt_serve.specs.Looks.{HasRoomAt, Lasts, LastsAt, RestsAt, is_queue}
use Rattle.nvt_serve.proofs.Quiet.{ended_moved, or_true, stream_stays}

-- ---- what is sent to it

no_reply : (x : Occurrence) (k : ℕ) → steps x.event k ≡ false → replies_to x k ≡ []
no_reply x k other = rw other (by (x.connection k)) where
  by : (o : Option ConnectionState) → sends_on x.world x.blocks (disk_outcome_in x.event) (x.parts k) o None (front_in x.event) ≡ []
  by None = refl
  by (Some v) = refl

no_views : (config : Configuration) (made : Option Configuration) → telling_by config made None ≡ None
no_views config None = refl
no_views config (Some new) = refl

views_of_none : (over : Bool) (row : ℕ → Option Row) (s : Session) → is_some (role_in s) ≡ false → (if over then None else views_in row s) ≡ None
views_of_none true row s none = refl
views_of_none false row session.Opened none = refl
views_of_none false row session.Initialized none = refl
views_of_none false row (session.Connected role queue) none = cc
views_of_none false row session.Ended none = refl

-- one that is no queue is told nothing
not_told : (x : Occurrence) (v : ConnectionState) → is_some (role_in v.session) ≡ false → telling x v ≡ None
not_told x v none =
    ap (telling_by x.world.config (edit_made x.event x.world.config)) (views_of_none (ends_by (cause_of x) (ends_live x) v) x.world.row v.session none)
    ∙ no_views x.world.config (edit_made x.event x.world.config)

told_none : (x : Occurrence) (v : ConnectionState) → telling x v ≡ None → told_at x (Some v) ≡ []
told_none x v none = rw none refl

sends_none : (x : Occurrence) (k : ℕ) (c : KnownConnection) → steps x.event k ≡ false → x.connection k ≡ Some c.state → telling x c.state ≡ None
    → sends x k ≡ []
sends_none x k c other here none =
    ap (λ (l : List ℕ). l ++ told_at x (x.connection k)) (no_reply x k other) ∙ ap (told_at x) here ∙ told_none x c.state none

-- ---- where it is left

session_left : (x : Occurrence) (k : ℕ) (c : KnownConnection) → steps x.event k ≡ false → telling x c.state ≡ None
    → (known_moved x k c).state.session ≡ (if ends_by (cause_of x) (ends_live x) c.state then session.Ended else c.state.session)
session_left x k c other none = rw (other, none) refl

no_role : (over : Bool) (s : Session) → is_some (role_in s) ≡ false → is_some (role_in (if over then session.Ended else s)) ≡ false
no_role true s none = refl
no_role false s none = none

queue_left : (x : Occurrence) (k : ℕ) (c : KnownConnection) → steps x.event k ≡ false → is_some (role_in c.state.session) ≡ false
    → is_some (role_in (known_moved x k c).state.session) ≡ false
queue_left x k c other none =
    ap (λ (s : Session). is_some (role_in s)) (session_left x k c other (not_told x c.state none))
    ∙ no_role (ends_by (cause_of x) (ends_live x) c.state) c.state.session none

no_session_ends : (e : EndCause) (gone : ℕ → Bool) (s : Session) → is_some (role_in s) ≡ false → ends_session e gone s ≡ false
no_session_ends e gone session.Opened none = refl
no_session_ends e gone session.Initialized none = refl
no_session_ends e gone (session.Connected role queue) none = cc
no_session_ends e gone session.Ended none = refl

alive_left : (x : Occurrence) (k : ℕ) (c : KnownConnection) → steps x.event k ≡ false → is_on_port (cause_of x) c.state.port ≡ false
    → is_some (role_in c.state.session) ≡ false → is_ended c.state.session ≡ false → is_ended (known_moved x k c).state.session ≡ false
alive_left x k c other port none alive =
    let stays : ends_by (cause_of x) (ends_live x) c.state ≡ false = rw port (no_session_ends (cause_of x) (ends_live x) c.state.session none) in
    ap is_ended (session_left x k c other (not_told x c.state none))
    ∙ ap (λ (over : Bool). is_ended (if over then session.Ended else c.state.session)) stays ∙ alive

idle_by : (ended over here : Bool) → (ended ≡ true → over ≡ true) → (ended || here) ≡ true → (over || here) ≡ true
idle_by true over here more h = rw (more refl) refl
idle_by false over here more h = rw h (or_true over)

idle_left : (x : Occurrence) (k : ℕ) (s : Option (List ℕ)) (c : KnownConnection) → steps x.event k ≡ false → is_idle_at s (Some c) ≡ true
    → is_idle_at s (Some (known_moved x k c)) ≡ true
idle_left x k None c other idle = refl
idle_left x k (Some held) c other idle =
    idle_by (is_ended c.state.session) (is_ended (known_moved x k c).state.session) (is_incomplete (front Target held)) (ended_moved x k c other) idle

rests_left : (x : Occurrence) (k : ℕ) (s : Option (List ℕ)) (c : KnownConnection) → steps x.event k ≡ false → x.connection k ≡ Some c.state
    → telling x c.state ≡ None → RestsAt s (Some c) → RestsAt s (Some (known_moved x k c))
rests_left x k s c other here none rests = record {
  output = ap (λ (l : List ℕ). l ++ sends x k) rests.output ∙ sends_none x k c other here none;
  idle = idle_left x k s c other rests.idle;
}

not_yet : (ended over : Bool) → (ended ≡ true → over ≡ true) → over ≡ false → ended ≡ false
not_yet true over more h = absurd (true≢false (sym (more refl) ∙ h))
not_yet false over more h = refl

room_left : (x : Occurrence) (k n : ℕ) (s : Option (List ℕ)) (c : KnownConnection) → steps x.event k ≡ false → HasRoomAt n s (Some c)
    → HasRoomAt n s (Some (known_moved x k c))
room_left x k n s c other has = λ after.
    let before = not_yet (is_ended c.state.session) (is_ended (known_moved x k c).state.session) (ended_moved x k c other) after in
    has before ∙ by s before after where
      by : (s : Option (List ℕ)) → is_ended c.state.session ≡ false → is_ended (known_moved x k c).state.session ≡ false
          → room_at s (Some c) ≡ room_at s (Some (known_moved x k c))
      by None before after = refl
      by (Some held) before after = rw (before, after) refl

-- ---- by an event that is no edit

lasts_beside : (x : Occurrence) (k : ℕ) (s : Option (List ℕ)) (o : Option KnownConnection) → steps x.event k ≡ false
    → x.connection k ≡ option_map (λ (c : KnownConnection). c.state) o → edit_made x.event x.world.config ≡ None
    → ((port : ℕ) → is_on_port (cause_of x) port ≡ false) → Lasts s o s (option_map (known_moved x k) o)
lasts_beside x k s None other here made port = record {
  queue = λ none. refl;
  alive = λ none alive. refl;
  rests = λ rests. rests;
  room = λ n has. has;
}
lasts_beside x k s (Some c) other here made port = record {
  queue = queue_left x k c other;
  alive = alive_left x k c other (port c.state.port);
  rests = rests_left x k s c other here (rw made refl);
  room = λ n. room_left x k n s c other;
}

no_port_set : (c : Change) (cntlid port : ℕ) → is_on_port (cause_set c cntlid) port ≡ false
no_port_set change.Enable cntlid port = refl
no_port_set change.Reset cntlid port = refl
no_port_set change.Shutdown cntlid port = refl
no_port_set change.Stay cntlid port = refl

no_port_updated : (u : Update) (cntlid port : ℕ) → is_on_port (cause_updated u cntlid) port ≡ false
no_port_updated (update.Configuration s) cntlid port = no_port_set s.change cntlid port
no_port_updated (update.Command c) cntlid port = refl

no_port_replied : (c : Consequence) (port : ℕ) → is_on_port (cause_replied c) port ≡ false
no_port_replied consequence.Nothing port = refl
no_port_replied (consequence.Begin b) port = refl
no_port_replied (consequence.Join j) port = refl
no_port_replied (consequence.Update cntlid u) port = no_port_updated u cntlid port

no_port_lost : (s : Session) (port : ℕ) → is_on_port (cause_lost s) port ≡ false
no_port_lost session.Opened port = refl
no_port_lost session.Initialized port = refl
no_port_lost (session.Connected (Admin cntlid) queue) port = refl
no_port_lost (session.Connected (Io cntlid qid) queue) port = refl
no_port_lost session.Ended port = refl

no_port_decided : (s : Session) (d : Decision) (port : ℕ) → is_on_port (cause_decided s d) port ≡ false
no_port_decided s (decision.Initialize alignment) port = refl
no_port_decided s (decision.Reply r) port = no_port_replied r.consequence port
no_port_decided s (decision.Request q) port = refl
no_port_decided s (decision.Receive ttag) port = refl
no_port_decided s (decision.Wait cid) port = refl
no_port_decided s (decision.Terminate t) port = no_port_lost s port
no_port_decided s decision.Close port = no_port_lost s port

no_port_stepped : (o : Option ConnectionState) (d : Option Decision) (port : ℕ) → is_on_port (cause_stepped o d) port ≡ false
no_port_stepped None d port = refl
no_port_stepped (Some v) None port = refl
no_port_stepped (Some v) (Some d) port = no_port_decided v.session d port

no_port_given_up : (o : Option ConnectionState) (port : ℕ) → is_on_port (cause_given_up o) port ≡ false
no_port_given_up None port = refl
no_port_given_up (Some v) port = no_port_lost v.session port

pub lasts_ticked : (old new : TargetState) (ms : ℕ) → Transition (ticked ms) old new → (j : ℕ) → LastsAt j old new
lasts_ticked old new ms transition j =
    let stream = transition.stream j ∙ stream_stays (ticked ms) j (place old.streams j) refl in
    rw (stream, transition.connection j)
    (lasts_beside (meets old (ticked ms)) j (place old.streams j) (place old.connections j) refl refl refl (λ port. refl))

pub lasts_stepped : (old new : TargetState) (k : ℕ) (found : Front) (m : DiskOutcome) → Transition (stepped k found m) old new → (j : ℕ) → j ≢ k
    → LastsAt j old new
lasts_stepped old new k found m transition j differs =
    let other : (j == k) ≡ false = grind (arith, nat_tests) in
    let stream = transition.stream j ∙ stream_stays (stepped k found m) j (place old.streams j) other in
    rw (stream, transition.connection j)
    (lasts_beside (meets old (stepped k found m)) j (place old.streams j) (place old.connections j) other refl refl (λ port. no_port_stepped _ _ port))

pub if_other : {T : Type 0} (j k : ℕ) (a b : T) → j ≢ k → (if j == k then a else b) ≡ b
if_other j k a b differs =
    let unequal : (j == k) ≡ false = grind (arith, nat_tests) in
    rw unequal refl

pub if_same : {T : Type 0} (k : ℕ) (a b : T) → (if k == k then a else b) ≡ a
if_same k a b =
    let equal : (k == k) ≡ true = grind (arith, nat_tests) in
    rw equal refl

pub lasts_opened : (old new : TargetState) (port k : ℕ) → Transition (opened port k) old new → (j : ℕ) → j ≢ k → LastsAt j old new
lasts_opened old new port k transition j differs =
    let x = meets old (opened port k) in
    let stream = transition.stream j ∙ if_other j k _ _ differs ∙ stream_stays (opened port k) j (place old.streams j) refl in
    let connection = transition.connection j ∙ if_other j k _ _ differs in
    rw (stream, connection) (lasts_beside x j (place old.streams j) (place old.connections j) refl refl refl (λ port. refl))

-- .. which ends none
no_row_ends : (config : Configuration) (c : ℕ) (row : Option Row) (controller : Option Controller) → ends_controller cause.Nothing config c row controller ≡ false
no_row_ends config c None None = refl
no_row_ends config c None (Some d) = refl
no_row_ends config c (Some row) None = refl
no_row_ends config c (Some row) (Some d) = refl

no_end : (gone : ℕ → Bool) (s : Session) → ((c : ℕ) → gone c ≡ false) → ends_session cause.Nothing gone s ≡ false
no_end gone session.Opened none = refl
no_end gone session.Initialized none = refl
no_end gone (session.Connected (Admin cntlid) queue) none = none cntlid
no_end gone (session.Connected (Io cntlid qid) queue) none = rw (none cntlid) refl
no_end gone session.Ended none = refl

alive_opened : (x : Occurrence) (k : ℕ) (o : Option KnownConnection) → steps x.event k ≡ false → cause_of x ≡ cause.Nothing
    → edit_made x.event x.world.config ≡ None → is_ended_at o ≡ false → is_ended_at (option_map (known_moved x k) o) ≡ false
alive_opened x k None other nothing made alive = refl
alive_opened x k (Some c) other nothing made alive =
    let live : (n : ℕ) → ends_live x n ≡ false = λ n.
    ap (λ (e : EndCause). ends_controller e (config_after x.event x.world.config) n (x.world.row n) (x.world.controller n)) nothing
    ∙ no_row_ends (config_after x.event x.world.config) n (x.world.row n) (x.world.controller n) in
    let stays : ends_by (cause_of x) (ends_live x) c.state ≡ false =
    ap (λ (e : EndCause). ends_by e (ends_live x) c.state) nothing ∙ no_end (ends_live x) c.state.session live in
    ap is_ended (session_left x k c other (rw made refl))
    ∙ ap (λ (over : Bool). is_ended (if over then session.Ended else c.state.session)) stays ∙ alive

pub opened_alive : (old new : TargetState) (port k : ℕ) → Transition (opened port k) old new → (j : ℕ) → j ≢ k
    → is_ended_at (place old.connections j) ≡ false → is_ended_at (place new.connections j) ≡ false
opened_alive old new port k transition j differs alive =
    ap is_ended_at (transition.connection j ∙ if_other j k _ _ differs)
    ∙ alive_opened (meets old (opened port k)) j (place old.connections j) refl refl refl alive

pub lasts_given_up : (old new : TargetState) (k : ℕ) → Transition (given_up k) old new → (j : ℕ) → j ≢ k → LastsAt j old new
lasts_given_up old new k transition j differs =
    let x = meets old (given_up k) in
    let stream = transition.stream j ∙ if_other j k _ _ differs ∙ stream_stays (given_up k) j (place old.streams j) refl in
    let connection = transition.connection j ∙ if_other j k _ _ differs in
    rw (stream, connection) (lasts_beside x j (place old.streams j) (place old.connections j) refl refl refl (λ port. no_port_given_up _ port))

-- ---- by an edit

-- .. of one that is a queue the room alone
pub record LastsEdit (s : Option (List ℕ)) (o : Option KnownConnection) (t : Option (List ℕ)) (p : Option KnownConnection) : Type 0 where
  pub queue : is_queue o ≡ false → is_queue p ≡ false
  pub rests : is_queue o ≡ false → RestsAt s o → RestsAt t p
  pub room : (n : ℕ) → HasRoomAt n s o → HasRoomAt n t p

edit_beside : (x : Occurrence) (k : ℕ) (s : Option (List ℕ)) (o : Option KnownConnection) → steps x.event k ≡ false
    → x.connection k ≡ option_map (λ (c : KnownConnection). c.state) o → LastsEdit s o s (option_map (known_moved x k) o)
edit_beside x k s None other here = record { queue = λ none. refl; rests = λ none rests. rests; room = λ n has. has }
edit_beside x k s (Some c) other here = record {
  queue = queue_left x k c other;
  rests = λ none. rests_left x k s c other here (not_told x c.state none);
  room = λ n. room_left x k n s c other;
}

pub lasts_edited : (old new : TargetState) (edit : Edit) → Transition (edited edit) old new → (j : ℕ)
    → LastsEdit (place old.streams j) (place old.connections j) (place new.streams j) (place new.connections j)
lasts_edited old new edit transition j =
    let stream = transition.stream j ∙ stream_stays (edited edit) j (place old.streams j) refl in
    rw (stream, transition.connection j) (edit_beside (meets old (edited edit)) j (place old.streams j) (place old.connections j) refl refl)

-- ---- by other calls

pub lasts_as : (s : Option (List ℕ)) (o : Option KnownConnection) → Lasts s o s o
lasts_as s o = record { queue = λ none. none; alive = λ none alive. alive; rests = λ rests. rests; room = λ n has. has }

pub lasts_same : (old new : TargetState) → new ≡ old → (j : ℕ) → LastsAt j old new
lasts_same old new same j = rw same (lasts_as (place old.streams j) (place old.connections j))

pub lasts_on : (old mid new : TargetState) (j : ℕ) → LastsAt j old mid → LastsAt j mid new → LastsAt j old new
lasts_on old mid new j first more = record {
  queue = λ none. more.queue (first.queue none);
  alive = λ none alive. more.alive (first.queue none) (first.alive none alive);
  rests = λ rests. more.rests (first.rests rests);
  room = λ n has. more.room n (first.room n has);
}

pub lasts_received : (old new : TargetState) (k : ℕ) (s : Option (List ℕ)) (o : Option KnownConnection) (piece : List ℕ) (result : Result ℕ NoConn)
    → ReceivesAt k s o old piece result new → (j : ℕ) → j ≢ k → LastsAt j old new
lasts_received old new k None o piece result h j differs = lasts_same old new h.1 j
lasts_received old new k (Some held) None piece result h j differs = lasts_same old new h.1 j
lasts_received old new k (Some held) (Some c) piece result h j differs =
    let after = held ++ take (min (room_of held c) (length piece)) piece in
    rw (h.1, get_or-set_other old.streams k j (Some after) None differs) (lasts_as (place old.streams j) (place old.connections j))

pub received_connections : (old new : TargetState) (k : ℕ) (s : Option (List ℕ)) (o : Option KnownConnection) (piece : List ℕ) (result : Result ℕ NoConn)
    → ReceivesAt k s o old piece result new → new.connections ≡ old.connections
received_connections old new k None o piece result h = ap (λ (t : TargetState). t.connections) h.1
received_connections old new k (Some held) None piece result h = ap (λ (t : TargetState). t.connections) h.1
received_connections old new k (Some held) (Some c) piece result h = ap (λ (t : TargetState). t.connections) h.1

drop_none : (n : ℕ) → drop {A = ℕ} n [] ≡ []
drop_none zero = refl
drop_none (suc n) = refl

taken_beside : (s : Option (List ℕ)) (c : KnownConnection) (n : ℕ) → Lasts s (Some c) s (Some (record { state = c.state; output = drop n c.output }))
taken_beside s c n = record {
  queue = λ none. none;
  alive = λ none alive. alive;
  rests = λ rests. record { output = ap (drop n) rests.output ∙ drop_none n; idle = by s rests.idle };
  room = λ m has. λ alive. has alive ∙ room s;
} where
  by : (s : Option (List ℕ)) → is_idle_at s (Some c) ≡ true → is_idle_at s (Some (record { state = c.state; output = drop n c.output })) ≡ true
  by None idle = refl
  by (Some held) idle = idle

  room : (s : Option (List ℕ)) → room_at s (Some c) ≡ room_at s (Some (record { state = c.state; output = drop n c.output }))
  room None = refl
  room (Some held) = refl

taken_at : (old new : TargetState) (k n : ℕ) (o : Option KnownConnection) → place old.connections k ≡ o → TakenAt k o old n new → (j : ℕ)
    → LastsAt j old new
taken_at old new k n None known takes j = lasts_same old new takes j
taken_at old new k n (Some c) known takes j =
    let after : KnownConnection = record { state = c.state; output = drop n c.output } in
    rw (takes, place-with_value_held old.connections k after j c known) (elim (cases_eq j k) [
      | inl same ↦
          let equal : (j == k) ≡ true = grind (arith, nat_tests) in
          let here : place old.connections j ≡ Some c = ap (place old.connections) same ∙ known in
          rw (equal, here) (taken_beside (place old.streams j) c n)
      | inr differs ↦
          let unequal : (j == k) ≡ false = grind (arith, nat_tests) in
          rw unequal (lasts_as (place old.streams j) (place old.connections j))
    ])

pub lasts_taken : (old new : TargetState) (k n : ℕ) → TakenAt k (place old.connections k) old n new → (j : ℕ) → LastsAt j old new
lasts_taken old new k n takes j = taken_at old new k n (place old.connections k) refl takes j

ended_taken_at : (old new : TargetState) (k n : ℕ) (o : Option KnownConnection) → place old.connections k ≡ o → TakenAt k o old n new → (j : ℕ)
    → is_ended_at (place new.connections j) ≡ is_ended_at (place old.connections j)
ended_taken_at old new k n None known takes j = ap (λ (t : TargetState). is_ended_at (place t.connections j)) takes
ended_taken_at old new k n (Some c) known takes j =
    let after : KnownConnection = record { state = c.state; output = drop n c.output } in
    rw (takes, place-with_value_held old.connections k after j c known) (elim (cases_eq j k) [
      | inl same ↦
          let equal : (j == k) ≡ true = grind (arith, nat_tests) in
          let here : place old.connections j ≡ Some c = ap (place old.connections) same ∙ known in
          rw (equal, here) refl
      | inr differs ↦
          let unequal : (j == k) ≡ false = grind (arith, nat_tests) in
          rw unequal refl
    ])

pub taken_ended : (old new : TargetState) (k n : ℕ) → TakenAt k (place old.connections k) old n new → (j : ℕ)
    → is_ended_at (place new.connections j) ≡ is_ended_at (place old.connections j)
taken_ended old new k n takes j = ended_taken_at old new k n (place old.connections k) refl takes j
