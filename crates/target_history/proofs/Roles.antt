-- What one event makes of the queues that connections are.
use Rattle.std.proofs.Common.{List, ◌≡◌, ◌⊎◌, ℕ, Bool, true, false, ◌||◌, Option, Some, None, refl, sym, ap, ◌∙◌, inl, inr}
use Rattle.std.specs.Prelude.{if◌then◌else◌, ◌==◌}
use Rattle.std.specs.Option.{option_map}
use Rattle.config_lists.specs.declared.edit.Edit.{Edit}
use Rattle.config_lists.specs.declared.edit.Edit.TheVariants.{PortDel}
use Rattle.nvt_config.specs.Configuration.{Configuration}
use Rattle.fabrics_connect.specs.declared.row.Row.{Row}
use Rattle.event_queue.specs.declared.completion.Completion.{Completion}
use Rattle.property_regs.specs.declared.regs.Change.TheVariants as change
use Rattle.property_regs.specs.declared.regs.Change.{Change}
use Rattle.target_decision.specs.declared.consequence.Consequence.{Consequence}
use Rattle.target_decision.specs.declared.consequence.Consequence.TheVariants as consequence
use Rattle.target_decision.specs.declared.consequence.Update.TheVariants as update
use Rattle.target_decision.specs.declared.decision.Decision.{Decision}
use Rattle.target_decision.specs.declared.decision.Decision.TheVariants as decision
use Rattle.target_decision.specs.declared.decision.Reply.{Reply}
use Rattle.target_decision.specs.declared.session.ConnectionState.{ConnectionState}
use Rattle.target_decision.specs.declared.session.Role.{Role}
use Rattle.target_decision.specs.declared.session.Role.TheVariants.{Admin, Io}
use Rattle.target_decision.specs.declared.session.Session.{Session}
use Rattle.target_decision.specs.declared.session.Session.TheVariants.{Opened, Initialized, Connected, Ended}
use Rattle.target_decision.specs.Consequence.{role_by}
use Rattle.target_decision.specs.Session.{opened_on, replied, role_in}
use Rattle.target_decision.specs.Tell.{completed_in}
use Rattle.target_decision.specs.Transfer.{Tags}
use Rattle.target_decision.specs.World.{World}
use Rattle.target_history.specs.declared.end_cause.EndCause.{EndCause}
use Rattle.target_history.specs.declared.end_cause.EndCause.TheVariants as cause
use Rattle.target_history.specs.EndCause.{cause_edited, cause_lost, cause_replied, cause_set, ends_by, ends_role, ends_row_at, ends_session, is_on_port}
use Rattle.target_history.specs.Event.{Event, edited, front_in, gives_up, opened, opens, port_in, stepped, steps, given_up, ticked}
use Rattle.target_history.specs.Occurrence.{Occurrence, completed_by, consequence_decided, consequence_of, connection_after, connection_moved, decided, decided_on, decision_of, cause_given_up, cause_of, cause_stepped, ends_live, is_end_decided, port_at, port_met, session_decided, stepping, telling, terminates}
use Rattle.target_history.specs.Laws.{role_at}
use Rattle.target_history.proofs.Admissions.{AdmitsAt, AdmitsBy, own_admits}
use Rattle.target_history.proofs.Endings.{decided_is, reply_ends}
use Rattle.target_history.proofs.Telling.{completed_role, responded_role}
use Rattle.target_history.proofs.Tests.{either_true, neither, or_false_is, same_here, same_number}

-- whether the connection's own step, or its giving up, ends it
abbrev pub leaves : Occurrence → ℕ → Bool
leaves x k = terminates x k || gives_up x.event k

-- a connection that is this queue after an event was it before
pub record Stays (x : Occurrence) (k : ℕ) (role : Role) : Type 0 where
  pub before : role_at (x.connection k) ≡ Some role
  pub kept : ends_role (cause_of x) (ends_live x) role ≡ false
  pub remains : leaves x k ≡ false
  pub same_port : port_at (connection_after x k (x.connection k)) ≡ port_at (x.connection k)

-- .. or becomes it by its own Connect
pub record Comes (x : Occurrence) (k : ℕ) (role : Role) : Type 0 where
  pub stepped : steps x.event k ≡ true
  pub made : role_by (consequence_of x) ≡ Some role
  pub same_port : port_at (connection_after x k (x.connection k)) ≡ port_met x

some_none : (role : Role) → Some role ≡ None → ⊥
some_none role h = cc

none_stays : (role : Role) → None ≡ Some role → ⊥
none_stays role h = cc

steps_if : (b : Bool) (o : Option Decision) (d : Decision) → (if b then o else None) ≡ Some d → b ≡ true
steps_if true o d h = refl
steps_if false o d h = cc

no_row_lost : (c : ℕ) (config : Configuration) (o : Option Row) → ends_row_at cause.Nothing config c o ≡ false
no_row_lost c config None = refl
no_row_lost c config (Some row) = refl

pub nothing_ends : (x : Occurrence) (c : ℕ) → cause_of x ≡ cause.Nothing → ends_live x c ≡ false
nothing_ends x c is = rw (is, no_row_lost c _ (x.world.row c)) refl

-- the decision for the connection that is stepped
pub own_is : (x : Occurrence) (k : ℕ) → steps x.event k ≡ true → decided x k ≡ decision_of x
own_is x k h = rw h (decided_is x.event x.world x.parts x.connection k h)

-- .. and the port
met_is : (event : Event) (connection : ℕ → Option ConnectionState) (k : ℕ) → steps event k ≡ true → connection k ≡ stepping event connection
met_is (edited edit) connection k h = cc
met_is (opened port n) connection k h = cc
met_is (given_up n) connection k h = cc
met_is (ticked now) connection k h = cc
met_is (stepped n front m) connection k h = ap connection (same_number k n h)

role_kept : (e : EndCause) (gone : ℕ → Bool) (s : Session) (role : Role) → role_in s ≡ Some role → ends_session e gone s ≡ false
    → ends_role e gone role ≡ false
role_kept e gone Opened role is h = cc
role_kept e gone Initialized role is h = cc
role_kept e gone (Connected r queue) role is h =
    let same : r ≡ role = cc in
    ap (ends_role e gone) (sym same) ∙ h
role_kept e gone Ended role is h = cc

module _ (x : Occurrence) (k : ℕ) (role : Role) (v : ConnectionState) (met : x.connection k ≡ Some v)
    (opening : opens x.event k ≡ false) (giving : gives_up x.event k ≡ false)
    (lives : ends_by (cause_of x) (ends_live x) v ≡ false) where
  after_port : port_at (connection_after x k (x.connection k)) ≡ v.port
  after_port = rw (opening, giving, met) refl

  stays_by : (d : Option Decision) → decided x k ≡ d → is_end_decided d ≡ false → role_in v.session ≡ Some role → Stays x k role
  stays_by d is goes h = record {
    before = rw met h;
    kept = role_kept (cause_of x) (ends_live x) v.session role h (neither (is_on_port (cause_of x) v.port) (ends_session (cause_of x) (ends_live x) v.session) lives).1;
    remains = rw giving (ap (λ (o : Option Decision). is_end_decided o || false) is ∙ rw goes refl);
    same_port = after_port ∙ ap port_at (sym met);
  }

  comes_by : (r : Reply) (ch : Consequence) → decided x k ≡ Some (decision.Reply r) → r.consequence ≡ ch → role_by ch ≡ Some role → Comes x k role
  comes_by r ch is same h =
      let stepping : steps x.event k ≡ true = steps_if (steps x.event k) (decided_on x.world (x.parts k) (x.connection k) (front_in x.event)) (decision.Reply r) is in
      let made : consequence_of x ≡ ch = ap consequence_decided (sym (own_is x k stepping) ∙ is) ∙ same in
      record {
        stepped = stepping;
        made = ap role_by made ∙ h;
        same_port = after_port ∙ ap port_at (sym met ∙ met_is x.event x.connection k stepping);
      }

  replied_is : (r : Reply) (ch : Consequence) → decided x k ≡ Some (decision.Reply r) → r.consequence ≡ ch → role_in (replied ch v.session) ≡ Some role
      → Stays x k role ⊎ Comes x k role
  replied_is r (consequence.Begin b) is same h = inr (comes_by r (consequence.Begin b) is same h)
  replied_is r (consequence.Join j) is same h = inr (comes_by r (consequence.Join j) is same h)
  replied_is r _ is same h = inl (stays_by (Some (decision.Reply r)) is refl (sym (responded_role v.session) ∙ h))

  turned_is : (d : Option Decision) → decided x k ≡ d → role_in (session_decided v.session d) ≡ Some role → Stays x k role ⊎ Comes x k role
  turned_is None is h = inl (stays_by None is refl h)
  turned_is (Some (decision.Initialize alignment)) is h = cc
  turned_is (Some (decision.Request q)) is h = inl (stays_by (Some (decision.Request q)) is refl h)
  turned_is (Some (decision.Receive ttag)) is h = inl (stays_by (Some (decision.Receive ttag)) is refl h)
  turned_is (Some (decision.Wait cid)) is h = inl (stays_by (Some (decision.Wait cid)) is refl h)
  turned_is (Some (decision.Reply r)) is h = replied_is r r.consequence is refl h
  turned_is (Some (decision.Terminate t)) is h = cc
  turned_is (Some decision.Close) is h = cc

moved_is : (x : Occurrence) (k : ℕ) (role : Role) (v : ConnectionState) → x.connection k ≡ Some v → opens x.event k ≡ false → gives_up x.event k ≡ false
    → role_in (connection_moved x k v).session ≡ Some role → Stays x k role ⊎ Comes x k role
moved_is x k role v met opening giving h = by (ends_by (cause_of x) (ends_live x) v) refl h where
  cs : List Completion
  cs = completed_by (telling x v) v.notices

  by : (over : Bool) → ends_by (cause_of x) (ends_live x) v ≡ over
      → role_in (if over then Ended else completed_in (session_decided v.session (decided x k)) cs) ≡ Some role → Stays x k role ⊎ Comes x k role
  by true is h = cc
  by false is h = turned_is x k role v met opening giving is (decided x k) refl (sym (completed_role (session_decided v.session (decided x k)) cs) ∙ h)

-- A connection that is a queue after an event was it before, or becomes it.
pub after_is : (x : Occurrence) (k : ℕ) (role : Role) → role_at (connection_after x k (x.connection k)) ≡ Some role
    → Stays x k role ⊎ Comes x k role
after_is x k role h = by (opens x.event k) (gives_up x.event k) (x.connection k) refl refl refl h where
  by : (opening giving : Bool) (o : Option ConnectionState) → opens x.event k ≡ opening → gives_up x.event k ≡ giving → x.connection k ≡ o
      → role_at (if opening then Some (opened_on (port_in x.event)) else if giving then None else option_map (connection_moved x k) o) ≡ Some role
      → Stays x k role ⊎ Comes x k role
  by true giving o op gi met h = cc
  by false true o op gi met h = cc
  by false false None op gi met h = cc
  by false false (Some v) op gi met h = moved_is x k role v met op gi h

-- ---- what ends with a connection

-- what an event ends with a queue's connection was that queue, and leaves
abbrev pub LostFrom : Occurrence → EndCause → Type 0
LostFrom x (cause.Controller c) = (n : ℕ) × (role_at (x.connection n) ≡ Some (Admin c)) × (leaves x n ≡ true)
LostFrom x (cause.Queue c q) = (n : ℕ) × (role_at (x.connection n) ≡ Some (Io c q)) × (leaves x n ≡ true)
LostFrom x _ = Unit {0}

edit_loses : (x : Occurrence) (edit : Edit) → LostFrom x (cause_edited edit)
edit_loses x (PortDel id) = tt
edit_loses x _ = tt

session_loses : (x : Occurrence) (n : ℕ) (s : Session) → role_at (x.connection n) ≡ role_in s → leaves x n ≡ true → LostFrom x (cause_lost s)
session_loses x n (Connected (Admin c) queue) is leaving = (n, is, leaving)
session_loses x n (Connected (Io c q) queue) is leaving = (n, is, leaving)
session_loses x n _ is leaving = tt

set_loses : (x : Occurrence) (c : ℕ) (e : Change) → LostFrom x (cause_set e c)
set_loses x c change.Reset = tt
set_loses x c _ = tt

reply_loses : (x : Occurrence) (ch : Consequence) → LostFrom x (cause_replied ch)
reply_loses x (consequence.Update c (update.Configuration s)) = set_loses x c s.change
reply_loses x (consequence.Update c (update.Command e)) = tt
reply_loses x _ = tt

given_up_loses : (x : Occurrence) (n : ℕ) (o : Option ConnectionState) → x.connection n ≡ o → leaves x n ≡ true → LostFrom x (cause_given_up o)
given_up_loses x n None met leaving = tt
given_up_loses x n (Some v) met leaving = session_loses x n v.session (ap role_at met) leaving

step_loses : (x : Occurrence) (n : ℕ) (o : Option ConnectionState) (d : Option Decision) → x.connection n ≡ o → (is_end_decided d ≡ true → leaves x n ≡ true)
    → LostFrom x (cause_stepped o d)
step_loses x n None d met leaving = tt
step_loses x n (Some v) None met leaving = tt
step_loses x n (Some v) (Some (decision.Initialize alignment)) met leaving = tt
step_loses x n (Some v) (Some (decision.Request q)) met leaving = tt
step_loses x n (Some v) (Some (decision.Receive ttag)) met leaving = tt
step_loses x n (Some v) (Some (decision.Wait cid)) met leaving = tt
step_loses x n (Some v) (Some (decision.Reply r)) met leaving = reply_loses x r.consequence
step_loses x n (Some v) (Some (decision.Terminate t)) met leaving = session_loses x n v.session (ap role_at met) (leaving refl)
step_loses x n (Some v) (Some decision.Close) met leaving = session_loses x n v.session (ap role_at met) (leaving refl)

event_loses : (event : Event) (w : World) (connection : ℕ → Option ConnectionState) (parts : ℕ → Tags) (clock : ℕ) (blocks : ℕ → List (List ℕ))
    → let x : Occurrence = record { event = event; world = w; connection = connection; parts = parts; clock = clock; blocks = blocks } in
    LostFrom x (cause_of x)
event_loses (edited edit) w connection parts clock blocks =
    let x : Occurrence = record { event = edited edit; world = w; connection = connection; parts = parts; clock = clock; blocks = blocks } in
    edit_loses x edit
event_loses (opened port n) w connection parts clock blocks = tt
event_loses (ticked now) w connection parts clock blocks = tt
event_loses (given_up n) w connection parts clock blocks =
    let x : Occurrence = record { event = given_up n; world = w; connection = connection; parts = parts; clock = clock; blocks = blocks } in
    given_up_loses x n (connection n) refl (same_here n)
event_loses (stepped n front m) w connection parts clock blocks =
    let x : Occurrence = record { event = stepped n front m; world = w; connection = connection; parts = parts; clock = clock; blocks = blocks } in
    step_loses x n (connection n) (decided_on w (parts n) (connection n) front) refl (λ ends. rw (same_here n) (either_true (is_end_decided (decided_on w (parts n) (connection n) front)) false ends))

pub loses : (x : Occurrence) → LostFrom x (cause_of x)
loses x = event_loses x.event x.world x.connection x.parts x.clock x.blocks

-- ---- what remains of a queue

-- what is lost with a queue
abbrev pub lost_of : Role → EndCause
lost_of (Admin c) = cause.Controller c
lost_of (Io c q) = cause.Queue c q

session_lost : (s : Session) (role : Role) → role_in s ≡ Some role → cause_lost s ≡ lost_of role
session_lost Opened role is = cc
session_lost Initialized role is = cc
session_lost (Connected (Admin c) queue) role is =
    let same : Admin c ≡ role = cc in
    ap lost_of same
session_lost (Connected (Io c q) queue) role is =
    let same : Io c q ≡ role = cc in
    ap lost_of same
session_lost Ended role is = cc

given_up_lost : (o : Option ConnectionState) (role : Role) → role_at o ≡ Some role → cause_given_up o ≡ lost_of role
given_up_lost None role is = cc
given_up_lost (Some v) role is = session_lost v.session role is

step_lost : (o : Option ConnectionState) (d : Option Decision) (role : Role) → role_at o ≡ Some role → is_end_decided d ≡ true → cause_stepped o d ≡ lost_of role
step_lost None d role is ends = cc
step_lost (Some v) None role is ends = cc
step_lost (Some v) (Some (decision.Initialize alignment)) role is ends = cc
step_lost (Some v) (Some (decision.Request q)) role is ends = cc
step_lost (Some v) (Some (decision.Receive ttag)) role is ends = cc
step_lost (Some v) (Some (decision.Wait cid)) role is ends = cc
step_lost (Some v) (Some (decision.Reply r)) role is ends = cc
step_lost (Some v) (Some (decision.Terminate t)) role is ends = session_lost v.session role is
step_lost (Some v) (Some decision.Close) role is ends = session_lost v.session role is

event_lost : (event : Event) (w : World) (connection : ℕ → Option ConnectionState) (parts : ℕ → Tags) (clock : ℕ) (blocks : ℕ → List (List ℕ)) (k : ℕ) (role : Role)
    → role_at (connection k) ≡ Some role
    → let x : Occurrence = record { event = event; world = w; connection = connection; parts = parts; clock = clock; blocks = blocks } in
    leaves x k ≡ true → cause_of x ≡ lost_of role
event_lost (edited edit) w connection parts clock blocks k role is h = cc
event_lost (opened port n) w connection parts clock blocks k role is h = cc
event_lost (ticked now) w connection parts clock blocks k role is h = cc
event_lost (given_up n) w connection parts clock blocks k role is h =
    let same : k ≡ n = same_number k n h in
    given_up_lost (connection n) role (ap (λ (j : ℕ). role_at (connection j)) (sym same) ∙ is)
event_lost (stepped n front m) w connection parts clock blocks k role is h = by (k == n) refl h where
  by : (stepping : Bool) → (k == n) ≡ stepping → (is_end_decided (if stepping then decided_on w (parts k) (connection k) front else None) || false) ≡ true
      → cause_stepped (connection n) (decided_on w (parts n) (connection n) front) ≡ lost_of role
  by false differs h = cc
  by true same h =
      let one : k ≡ n = same_number k n same in
      step_lost (connection n) (decided_on w (parts n) (connection n) front) role (ap (λ (j : ℕ). role_at (connection j)) (sym one) ∙ is)
      (ap (λ (j : ℕ). is_end_decided (decided_on w (parts j) (connection j) front)) (sym one) ∙ or_false_is (is_end_decided (decided_on w (parts k) (connection k) front)) h)

-- where a queue's connection leaves, that queue is lost
pub leaving_loses : (x : Occurrence) (k : ℕ) (role : Role) → role_at (x.connection k) ≡ Some role → leaves x k ≡ true → cause_of x ≡ lost_of role
leaving_loses x k role is h = event_lost x.event x.world x.connection x.parts x.clock x.blocks k role is h

session_remains : (e : EndCause) (gone : ℕ → Bool) (s : Session) (role : Role) → role_in s ≡ Some role → ends_role e gone role ≡ false
    → ends_session e gone s ≡ false
session_remains e gone Opened role is h = refl
session_remains e gone Initialized role is h = refl
session_remains e gone (Connected r queue) role is h =
    let same : r ≡ role = cc in
    ap (ends_role e gone) same ∙ h
session_remains e gone Ended role is h = refl

replied_remains : (row : ℕ → Option Row) (port : ℕ) (s : Session) (role : Role) (ch : Consequence) → role_in s ≡ Some role → AdmitsBy row (role_in s) port ch
    → role_in (replied ch s) ≡ Some role
replied_remains row port s role (consequence.Begin b) is h = absurd (some_none role (sym is ∙ h.0))
replied_remains row port s role (consequence.Join j) is h = absurd (some_none role (sym is ∙ h.0))
replied_remains row port s role _ is h = responded_role s ∙ is

turned_remains : (row : ℕ → Option Row) (port : ℕ) (s : Session) (role : Role) (d : Option Decision) → role_in s ≡ Some role → AdmitsAt row (role_in s) port d
    → is_end_decided d ≡ false → role_in (session_decided s d) ≡ Some role
turned_remains row port s role None is h goes = is
turned_remains row port s role (Some (decision.Initialize alignment)) is h goes = absurd (some_none role (sym is ∙ h))
turned_remains row port s role (Some (decision.Request q)) is h goes = is
turned_remains row port s role (Some (decision.Receive ttag)) is h goes = is
turned_remains row port s role (Some (decision.Wait cid)) is h goes = is
turned_remains row port s role (Some (decision.Reply r)) is h goes = replied_remains row port s role r.consequence is h
turned_remains row port s role (Some (decision.Terminate t)) is h goes = cc
turned_remains row port s role (Some decision.Close) is h goes = cc

-- .. of a connection that is not ended
living : (x : Occurrence) (k : ℕ) (role : Role) (v : ConnectionState) → ends_by (cause_of x) (ends_live x) v ≡ false
    → role_in (completed_in (session_decided v.session (decided x k)) (completed_by (telling x v) v.notices)) ≡ Some role
    → role_in (connection_moved x k v).session ≡ Some role
living x k role v lives h =
    ap (λ (over : Bool). role_in (if over then Ended else completed_in (session_decided v.session (decided x k)) (completed_by (telling x v) v.notices))) lives ∙ h

-- a connection remains the queue that it is
pub remains_is : (x : Occurrence) (k : ℕ) (role : Role) → role_at (x.connection k) ≡ Some role → opens x.event k ≡ false → leaves x k ≡ false
    → is_on_port (cause_of x) (port_at (x.connection k)) ≡ false → ends_role (cause_of x) (ends_live x) role ≡ false
    → role_at (connection_after x k (x.connection k)) ≡ Some role
remains_is x k role is opening leaving port kept = by (x.connection k) is port (own_admits x k) where
  parts : (terminates x k ≡ false) × (gives_up x.event k ≡ false)
  parts = neither (terminates x k) (gives_up x.event k) leaving

  by : (o : Option ConnectionState) → role_at o ≡ Some role → is_on_port (cause_of x) (port_at o) ≡ false
      → AdmitsAt x.world.row (role_at o) (port_at o) (decided x k) → role_at (connection_after x k o) ≡ Some role
  by None is port h = cc
  by (Some v) is port h =
      let lives : ends_by (cause_of x) (ends_live x) v ≡ false = rw port (session_remains (cause_of x) (ends_live x) v.session role is kept) in
      let cs = completed_by (telling x v) v.notices in
      rw (opening, parts.1) (living x k role v lives (completed_role (session_decided v.session (decided x k)) cs
      ∙ turned_remains x.world.row v.port v.session role (decided x k) is h parts.0))

-- ---- what comes of a Connect

pub none_gone : (gone : ℕ → Bool) (s : Session) → ((c : ℕ) → gone c ≡ false) → ends_session cause.Nothing gone s ≡ false
none_gone gone Opened lives = refl
none_gone gone Initialized lives = refl
none_gone gone (Connected (Admin c) queue) lives = lives c
none_gone gone (Connected (Io c q) queue) lives = rw (lives c) refl
none_gone gone Ended lives = refl

reply_made : (ch : Consequence) (s : Session) (role : Role) → role_by ch ≡ Some role → role_in (replied ch s) ≡ Some role
reply_made (consequence.Begin b) s role h = h
reply_made (consequence.Join j) s role h = h
reply_made _ s role h = cc

turn_made : (d : Option Decision) (s : Session) (role : Role) → role_by (consequence_decided d) ≡ Some role → role_in (session_decided s d) ≡ Some role
turn_made None s role h = cc
turn_made (Some (decision.Initialize alignment)) s role h = cc
turn_made (Some (decision.Request q)) s role h = cc
turn_made (Some (decision.Receive ttag)) s role h = cc
turn_made (Some (decision.Wait cid)) s role h = cc
turn_made (Some (decision.Reply r)) s role h = reply_made r.consequence s role h
turn_made (Some (decision.Terminate t)) s role h = cc
turn_made (Some decision.Close) s role h = cc

-- a reply that makes a queue ends nothing
made_ends : (ch : Consequence) (role : Role) → role_by ch ≡ Some role → cause_replied ch ≡ cause.Nothing
made_ends (consequence.Begin b) role h = refl
made_ends (consequence.Join j) role h = refl
made_ends _ role h = cc

pub made_is : (x : Occurrence) (k : ℕ) (role : Role) → steps x.event k ≡ true → opens x.event k ≡ false → gives_up x.event k ≡ false
    → role_by (consequence_of x) ≡ Some role → role_at (connection_after x k (x.connection k)) ≡ Some role
made_is x k role stepping opening giving made = by (x.connection k) refl where
  own : role_by (consequence_decided (decided x k)) ≡ Some role
  own = ap (λ (d : Option Decision). role_by (consequence_decided d)) (own_is x k stepping) ∙ made

  nothing : cause_of x ≡ cause.Nothing
  nothing = reply_ends x (consequence_of x) refl (λ stays. none_stays role (ap role_by (sym stays) ∙ made)) ∙ made_ends (consequence_of x) role made

  by : (o : Option ConnectionState) → x.connection k ≡ o → role_at (connection_after x k o) ≡ Some role
  by None met =
      let none : decided x k ≡ None = rw (stepping, met) refl in
      let clash : None ≡ Some role = ap (λ (d : Option Decision). role_by (consequence_decided d)) (sym none) ∙ own in
      cc
  by (Some v) met =
      let lives : ends_by (cause_of x) (ends_live x) v ≡ false = rw nothing (none_gone (ends_live x) v.session (λ c. nothing_ends x c nothing)) in
      let cs = completed_by (telling x v) v.notices in
      rw (opening, giving) (living x k role v lives (completed_role (session_decided v.session (decided x k)) cs ∙ turn_made (decided x k) v.session role own))
