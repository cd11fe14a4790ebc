-- What the host of a controller is told is what look-backs over all that happened say, and what one more event makes of it.
use Rattle.std.proofs.Common.{◌≡◌, ◌⊎◌, ℕ, ◌+◌, Bool, true, false, List, [], ◌∷◌, Option, Some, None, refl, sym, ap, ◌∙◌, inl, inr}
use Rattle.std.specs.Prelude.{if◌then◌else◌, IsSomeAnd}
use Rattle.std.specs.Option.{option_map}
use Rattle.admin_queue.specs.declared.outcome.Effect.TheVariants as effect
use Rattle.nvt_config.specs.Configuration.{Configuration}
use Rattle.fabrics_connect.specs.declared.decision.AdmitAs.{AdmitAs}
use Rattle.fabrics_connect.specs.declared.decision.AdmitAs.TheVariants as admit
use Rattle.fabrics_connect.specs.declared.row.Row.{Row}
use Rattle.admin_queue.specs.NoticeLaws.{called}
use Rattle.admin_queue.specs.Notices.{NoticeState, notices_at_connect, tell_answers, told as told_state}
use Rattle.admin_queue.specs.Told.{Occurrence as NoticeOccurrence, notices_of as told_after}
use Rattle.admin_queue.specs.Viewer.{Views, discovery}
use Rattle.admin_queue.proofs.LookingBack.{notices_look_back}
use Rattle.pdu_codec.specs.Sqe.{cid_of}
use Rattle.pdu_cut.specs.Front.{Front}
use Rattle.pdu_cut.specs.Pdu.{data_part}
use Rattle.property_regs.specs.declared.regs.Change.{Change}
use Rattle.property_regs.specs.declared.regs.Change.TheVariants as change
use Rattle.property_regs.specs.declared.regs.Regs.{Regs}
use Rattle.target_decision.specs.declared.consequence.Beginning.{Beginning}
use Rattle.target_decision.specs.declared.consequence.Consequence.{Consequence}
use Rattle.target_decision.specs.declared.consequence.Consequence.TheVariants as consequence
use Rattle.target_decision.specs.declared.consequence.Update.{Update}
use Rattle.target_decision.specs.declared.consequence.Update.TheVariants as of_controller
use Rattle.target_decision.specs.declared.decision.Decision.{Decision}
use Rattle.target_decision.specs.declared.decision.Decision.TheVariants as decision
use Rattle.target_decision.specs.declared.session.ConnectionState.{ConnectionState}
use Rattle.target_decision.specs.declared.session.Role.{Role}
use Rattle.target_decision.specs.declared.session.Role.TheVariants.{Admin, Io}
use Rattle.target_decision.specs.declared.session.Session.{Session}
use Rattle.target_decision.specs.declared.session.Session.TheVariants.{Opened, Initialized, Connected, Ended}
use Rattle.target_decision.specs.Capsule.{command, owed}
use Rattle.target_decision.specs.Connect.{admitted}
use Rattle.target_decision.specs.Consequence.{role_by}
use Rattle.target_decision.specs.Decision.{decide, entry_of}
use Rattle.target_decision.specs.Notice.{notices_by, notices_changed, notices_followed}
use Rattle.target_decision.specs.Session.{is_ended, role_in}
use Rattle.target_decision.specs.Transfer.{Tags, head_in}
use Rattle.target_decision.specs.World.{World}
use Rattle.target_decision.proofs.Deciding.{command_is, decision_is, finished_is}
use Rattle.target_history.specs.EndCause.{ends_by}
use Rattle.target_history.specs.Event.{Event, front_in, opens, steps}
use Rattle.target_history.specs.Occurrence.{Occurrence, Start, Telling, cause_of, completed_by, completes_at, connection_after, consequence_decided, decided, decided_on, edit_made, ends_live, noted_at, noted_by, notices_decided, own_consequence, port_at, started, telling, telling_by, views_at, views_in, views_of}
use Rattle.target_history.specs.History.{Admission, Opening, admission_of, admission_or, admits, connection_of, happened, has_ended, has_queue, is_initialized, is_known, meets_after, notices_of, notices_to, part_of, registers_of, responses_since, row_of, row_with, session_with, start_of}
use Rattle.target_history.specs.Laws.{role_at, role_of}
use Rattle.target_history.specs.Noticing.{HostsAreToldByLookingBack, noted_after, owed_at}
use Rattle.target_history.specs.Told.{done_at, done_by, done_by_change, done_by_consequence, done_by_update, edit_at, edit_told, owner_by, owner_of, told_of, with_occurrence}
use Rattle.target_history.proofs.Admissions.{AdmitsAt, AdmitsBy, own_admits}
use Rattle.target_history.proofs.Owning.{IsOwner, all_own, owner_stays, unowned}
use Rattle.target_history.proofs.Steps.{met_as, noted_step}
use Rattle.target_history.proofs.Telling.{unseen}
use Rattle.target_history.proofs.Tests.{bool_is}

-- ---- one occurrence

-- what it makes of what is told
abbrev called_at : Views → Option NoticeOccurrence → NoticeState → NoticeState
called_at views None s = s
called_at views (Some x) s = called views x s

one_more : (views : Views) (o : Option NoticeOccurrence) (before : List NoticeOccurrence)
    → told_after views (with_occurrence o before) ≡ called_at views o (told_after views before)
one_more views None before = refl
one_more views (Some x) before = notices_look_back.next views x before

-- what a decision does to it
change_called : (views : Views) (e : Change) (s : NoticeState) → notices_changed e s ≡ called_at views (done_by_change e) s
change_called views change.Reset s = refl
change_called views change.Enable s = refl
change_called views change.Shutdown s = refl
change_called views change.Stay s = refl

update_called : (views : Views) (u : Update) (s : NoticeState) → notices_by u s ≡ called_at views (done_by_update u) s
update_called views (of_controller.Configuration set) s = change_called views set.change s
update_called views (of_controller.Command (effect.Notices u)) s = refl
update_called views _ s = refl

consequence_called : (views : Views) (ch : Consequence) (s : NoticeState) → notices_followed s ch ≡ called_at views (done_by_consequence ch) s
consequence_called views (consequence.Update cntlid u) s = update_called views u s
consequence_called views _ s = refl

decision_called : (views : Views) (d : Option Decision) (s : NoticeState) → notices_decided s d ≡ called_at views (done_at d) s
decision_called views None s = refl
decision_called views (Some (decision.Wait cid)) s = refl
decision_called views (Some (decision.Reply r)) s = consequence_called views r.consequence s
decision_called views (Some (decision.Initialize alignment)) s = refl
decision_called views (Some (decision.Request q)) s = refl
decision_called views (Some (decision.Receive ttag)) s = refl
decision_called views (Some (decision.Terminate t)) s = refl
decision_called views (Some decision.Close) s = refl

-- .. and an edit, of which these views are told
abbrev Shows : Views → Option Telling → Type 0
Shows views None = Unit {0}
Shows views (Some t) = t.views ≡ views

edit_called : (views : Views) (t : Option Telling) (s : NoticeState) → Shows views t → noted_by t s ≡ called_at views (edit_told t) s
edit_called views None s shows = refl
edit_called views (Some t) s shows = ap (λ (seen : Views). told_state t.old t.new seen s) shows

-- ---- what happens on a connection that is no admin queue

abbrev NoAdmin : Option Role → Type 0
NoAdmin role = (c : ℕ) → role ≡ Some (Admin c) → ⊥

none_is : (role : Option Role) → role ≡ None → NoAdmin role
none_is role none c is = cc

admin_or : (role : Option Role) → NoAdmin role ⊎ ((c : ℕ) × (role ≡ Some (Admin c)))
admin_or None = inl (λ c is. cc)
admin_or (Some (Admin c)) = inr (c, refl)
admin_or (Some (Io c q)) = inl (λ d is. cc)

admitted_nothing : (a : AdmitAs) (entry : List ℕ) (session : Session) (cid : ℕ) → done_by (owed session cid None (admitted a entry)) ≡ None
admitted_nothing (admit.Controller new) entry session cid = refl
admitted_nothing (admit.Queue cntlid qid) entry session cid = refl

command_nothing : (w : World) (v : ConnectionState) (tags : Tags) (cid : ℕ) (entry bytes : List ℕ)
    → NoAdmin (role_in v.session) → done_by (owed v.session cid None (command w v tags entry bytes)) ≡ None
command_nothing w v tags cid entry bytes none =
    command_is w v entry bytes (λ o. done_by (owed v.session cid None o) ≡ None) (record {
      refuses = λ r. refl;
      admits = λ role a is. admitted_nothing a entry v.session cid;
      tells = λ value. refl;
      configures = λ cntlid role s. absurd (none cntlid role);
      administers = λ cntlid role c own s is. absurd (none cntlid role);
      waits = λ cntlid role c own is. absurd (none cntlid role);
      performs = λ cntlid qid role host port subsystem op is. refl;
      asks = λ cntlid qid role host port subsystem len is. refl;
    }) tags

decide_nothing : (w : World) (v : ConnectionState) (tags : Tags) (front : Front) → NoAdmin (role_in v.session) → done_by (decide w v tags front) ≡ None
decide_nothing w v tags front none = decision_is w v tags front (λ d. done_by d ≡ None) (record {
  closes = refl;
  terminates = λ t. refl;
  initializes = λ opened alignment. refl;
  answers = λ pdu is kind room. command_nothing w v tags (cid_of (entry_of pdu)) (entry_of pdu) (data_part pdu) none;
  receives = λ pdu part brings. refl;
  completes = λ pdu part brings.
      finished_is w part.command.entry ((head_in pdu).datao + (head_in pdu).datal)
      (λ o. done_by (owed v.session (head_in pdu).cccid (Some (head_in pdu).ttag) o) ≡ None) v.session
      (record { refuses = λ status. refl; performs = λ cntlid qid role host port subsystem op is. refl });
})

decided_nothing : (w : World) (tags : Tags) (o : Option ConnectionState) (front : Front) → NoAdmin (role_at o) → done_at (decided_on w tags o front) ≡ None
decided_nothing w tags None front none = refl
decided_nothing w tags (Some v) front none = by (is_ended v.session) where
  by : (over : Bool) → done_at (if over then None else Some (decide w v tags front)) ≡ None
  by true = refl
  by false = decide_nothing w v tags front none

own_nothing : (x : Occurrence) (k : ℕ) → NoAdmin (role_at (x.connection k)) → done_at (decided x k) ≡ None
own_nothing x k none = by (steps x.event k) where
  by : (stepping : Bool) → done_at (if stepping then decided_on x.world (x.parts k) (x.connection k) (front_in x.event) else None) ≡ None
  by true = decided_nothing x.world (x.parts k) (x.connection k) (front_in x.event) none
  by false = refl

-- .. nor is it told of an edit
session_unseen : (row : ℕ → Option Row) (s : Session) → NoAdmin (role_in s) → views_in row s ≡ None
session_unseen row Opened none = refl
session_unseen row Initialized none = refl
session_unseen row (Connected (Admin c) queue) none = absurd (none c refl)
session_unseen row (Connected (Io c q) queue) none = refl
session_unseen row Ended none = refl

either_none : (over : Bool) (o : Option Views) → o ≡ None → (if over then None else o) ≡ None
either_none true o none = refl
either_none false o none = none

untold_at : (x : Occurrence) (v : ConnectionState) → NoAdmin (role_in v.session) → telling x v ≡ None
untold_at x v none =
    let unshown : views_at x v ≡ None = either_none (ends_by (cause_of x) (ends_live x) v) (views_in x.world.row v.session) (session_unseen x.world.row v.session none) in
    ap (λ (views : Option Views). telling_by x.world.config (edit_made x.event x.world.config) views) unshown
    ∙ unseen x.world.config (edit_made x.event x.world.config)

no_edit_at : (x : Occurrence) (o : Option ConnectionState) → NoAdmin (role_at o) → edit_at x o ≡ None
no_edit_at x None none = refl
no_edit_at x (Some v) none = ap edit_told (untold_at x v none)

not_noted_at : (x : Occurrence) (o : Option ConnectionState) (s : NoticeState) → NoAdmin (role_at o) → noted_at x o s ≡ s
not_noted_at x None s none = refl
not_noted_at x (Some v) s none = ap (λ (t : Option Telling). noted_by t s) (untold_at x v none)

-- ---- one more event, which does not open the connection

module _ (x : Occurrence) (k : ℕ) (closed : opens x.event k ≡ false) where
  told_next : (before : List Occurrence)
      → told_of (x ∷ before) k ≡ with_occurrence (edit_at x (x.connection k)) (with_occurrence (done_at (decided x k)) (told_of before k))
  told_next before = rw closed refl

  noted_next : (s : NoticeState) → noted_after x k s ≡ noted_at x (x.connection k) (notices_decided s (decided x k))
  noted_next s = rw closed refl

  owner_next : (before : List Occurrence) (ch : Consequence) → own_consequence x k ≡ ch → owner_of (x ∷ before) k ≡ owner_by x ch (owner_of before k)
  owner_next before ch is = rw closed (ap (λ (ch : Consequence). owner_by x ch (owner_of before k)) is)

  -- where it is no admin queue, nothing happens to it, and its host is told nothing
  untouched : NoAdmin (role_at (x.connection k)) → (before : List Occurrence) → told_of (x ∷ before) k ≡ told_of before k
  untouched none before = told_next before ∙ rw (no_edit_at x (x.connection k) none, own_nothing x k none) refl

  unnoted : NoAdmin (role_at (x.connection k)) → (s : NoticeState) → noted_after x k s ≡ s
  unnoted none s =
      noted_next s ∙ not_noted_at x (x.connection k) (notices_decided s (decided x k)) none ∙ decision_called (discovery []) (decided x k) s
      ∙ ap (λ (o : Option NoticeOccurrence). called_at (discovery []) o s) (own_nothing x k none)

-- ---- before its Connect nothing happened to it

admitted_by : (a b : Option Admission) → admission_or a b ≡ None → b ≡ None
admitted_by None b none = none
admitted_by (Some a) b none = cc

session_role : (ended initialized : Bool) (a : Option Admission) (n : ℕ) → a ≡ None → role_in (if ended then Ended else session_with a initialized n) ≡ None
session_role true initialized a n none = refl
session_role false true None n none = refl
session_role false false None n none = refl
session_role false initialized (Some a) n none = cc

no_role : (h : List Occurrence) (k : ℕ) → admission_of h k ≡ None → role_of h k ≡ None
no_role h k none = by (is_known h k) where
  by : (known : Bool) → role_at (if known then Some (met_as h k) else None) ≡ None
  by true = session_role (has_ended h k) (is_initialized h k) (admission_of h k) (responses_since h k) none
  by false = refl

untold_next : (x : Occurrence) (before : List Occurrence) (k : ℕ) → x.connection k ≡ connection_of before k
    → (admission_of before k ≡ None → told_of before k ≡ []) → admission_of (x ∷ before) k ≡ None → told_of (x ∷ before) k ≡ []
untold_next x before k met earlier none = by (opens x.event k) refl none where
  by : (opening : Bool) → opens x.event k ≡ opening → (if opening then None else admission_or (admits x k) (admission_of before k)) ≡ None
      → told_of (x ∷ before) k ≡ []
  by true is none = rw is refl
  by false is none =
      let first = admitted_by (admits x k) (admission_of before k) none in
      untouched x k is (none_is (role_at (x.connection k)) (ap role_at met ∙ no_role before k first)) before ∙ earlier first

untold : (disks : Opening) (events : List Event) (k : ℕ) → admission_of (happened disks events) k ≡ None → told_of (happened disks events) k ≡ []
untold disks [] k none = refl
untold disks (event ∷ events) k none =
    untold_next (meets_after disks (happened disks events) event) (happened disks events) k refl (untold disks events k) none

-- ---- what is told of an edit is of the controller's own views

seen_in : (row : ℕ → Option Row) (s : Session) (c : ℕ) → role_in s ≡ Some (Admin c) → views_in row s ≡ option_map views_of (row c)
seen_in row Opened c is = cc
seen_in row Initialized c is = cc
seen_in row (Connected (Admin d) queue) c is =
    let same : d ≡ c = cc in
    ap (λ (n : ℕ). option_map views_of (row n)) same
seen_in row (Connected (Io d q) queue) c is = cc
seen_in row Ended c is = cc

shows_by : (old : Configuration) (made : Option Configuration) (over : Bool) (o : Option Views) (views : Views) → o ≡ Some views
    → Shows views (telling_by old made (if over then None else o))
shows_by old None over o views is = tt
shows_by old (Some new) true o views is = tt
shows_by old (Some new) false None views is = cc
shows_by old (Some new) false (Some seen) views is = cc

shows_of : (x : Occurrence) (v : ConnectionState) (c : ℕ) (views : Views) → role_in v.session ≡ Some (Admin c)
    → option_map views_of (x.world.row c) ≡ Some views → Shows views (telling x v)
shows_of x v c views role shown =
    shows_by x.world.config (edit_made x.event x.world.config) (ends_by (cause_of x) (ends_live x) v) (views_in x.world.row v.session) views
    (seen_in x.world.row v.session c role ∙ shown)

abbrev ShowsAt : Views → Occurrence → Option ConnectionState → Type 0
ShowsAt views x None = Unit {0}
ShowsAt views x (Some v) = Shows views (telling x v)

shows_at : (x : Occurrence) (o : Option ConnectionState) (c : ℕ) (views : Views) → role_at o ≡ Some (Admin c)
    → option_map views_of (x.world.row c) ≡ Some views → ShowsAt views x o
shows_at x None c views role shown = tt
shows_at x (Some v) c views role shown = shows_of x v c views role shown

noted_called : (views : Views) (x : Occurrence) (o : Option ConnectionState) (s : NoticeState) → ShowsAt views x o
    → noted_at x o s ≡ called_at views (edit_at x o) s
noted_called views x None s shows = refl
noted_called views x (Some v) s shows = edit_called views (telling x v) s shows

-- ---- a Connect comes on a connection that is no queue, and is not ended

unadmitted : (over initialized : Bool) (a : Option Admission) (n : ℕ) → role_in (if over then Ended else session_with a initialized n) ≡ None
    → is_ended (if over then Ended else session_with a initialized n) ≡ false → a ≡ None
unadmitted true initialized a n role ended = cc
unadmitted false initialized None n role ended = refl
unadmitted false initialized (Some a) n role ended = cc

begins_free : (row : ℕ → Option Row) (role : Option Role) (port : ℕ) (d : Option Decision) (c : ℕ) → AdmitsAt row role port d
    → role_by (consequence_decided d) ≡ Some (Admin c) → role ≡ None
begins_free row role port None c admits made = cc
begins_free row role port (Some (decision.Reply r)) c admits made = by r.consequence admits made where
  by : (ch : Consequence) → AdmitsBy row role port ch → role_by ch ≡ Some (Admin c) → role ≡ None
  by (consequence.Begin b) admits made = admits.0
  by (consequence.Join j) admits made = cc
  by _ admits made = cc
begins_free row role port (Some _) c admits made = cc

begins_step : (stepping : Bool) (d : Option Decision) (c : ℕ) → role_by (consequence_decided (if stepping then d else None)) ≡ Some (Admin c)
    → role_by (consequence_decided d) ≡ Some (Admin c)
begins_step true d c made = made
begins_step false d c made = cc

decided_goes : (w : World) (tags : Tags) (known : Bool) (v : ConnectionState) (front : Front) (c : ℕ)
    → role_by (consequence_decided (decided_on w tags (if known then Some v else None) front)) ≡ Some (Admin c) → is_ended v.session ≡ false
decided_goes w tags false v front c made = cc
decided_goes w tags true v front c made = by (is_ended v.session) refl made where
  by : (over : Bool) → is_ended v.session ≡ over → role_by (consequence_decided (if over then None else Some (decide w v tags front))) ≡ Some (Admin c)
      → is_ended v.session ≡ false
  by true is made = cc
  by false is made = is

known_role : (known : Bool) (v : ConnectionState) (w : World) (tags : Tags) (front : Front) (c : ℕ)
    → role_by (consequence_decided (decided_on w tags (if known then Some v else None) front)) ≡ Some (Admin c)
    → role_at (if known then Some v else None) ≡ None → role_in v.session ≡ None
known_role false v w tags front c made none = cc
known_role true v w tags front c made none = none

-- ---- all that happened, and one more event

start_is : (P : Start → Type 0) (o : Option Start) → IsSomeAnd o P → (s : Start) × (o ≡ Some s) × P s
start_is P None there = absurd there
start_is P (Some s) there = (s, refl, there)

module _ (disks : Opening) (events : List Event) (event : Event) (k : ℕ) where
  abbrev before : List Occurrence
  before = happened disks events

  abbrev x : Occurrence
  x = meets_after disks before event

  abbrev Follows : Type 0
  Follows = notices_of (x ∷ before) k ≡ noted_after x k (notices_of before k)

  -- the Connect that begins its controller is the first since its open
  first_connect : (b : Beginning) → own_consequence x k ≡ consequence.Begin b → admission_of before k ≡ None
  first_connect b is =
      let c = b.controller.cntlid in
      let made : role_by (consequence_decided (decided x k)) ≡ Some (Admin c) = ap role_by is in
      let free : role_of before k ≡ None =
      begins_free (row_of before) (role_of before k) (port_at (connection_of before k)) (decided x k) c (own_admits x k) made in
      let on = begins_step (steps event k) (decided_on x.world (part_of before k) (connection_of before k) (front_in event)) c made in
      let goes = decided_goes x.world (part_of before k) (is_known before k) (met_as before k) (front_in event) c on in
      let role = known_role (is_known before k) (met_as before k) x.world (part_of before k) (front_in event) c on free in
      unadmitted (has_ended before k) (is_initialized before k) (admission_of before k) (responses_since before k) role goes

  -- on a connection that is no admin queue what is told stays, and at that Connect it is as it was at the open
  stays_told : NoAdmin (role_of before k) → opens event k ≡ false → (ch : Consequence) → own_consequence x k ≡ ch → Follows
  stays_told none closed (consequence.Begin b) is =
      let first = first_connect b is in
      let views = views_of (started x b).row in
      let told : told_of (x ∷ before) k ≡ [] = untouched x k closed none before ∙ untold disks events k first in
      let was : notices_of before k ≡ notices_at_connect = ap (λ (o : Option Start). notices_to o (told_of before k)) (unowned before k first) in
      ap (λ (o : Option Start). notices_to o (told_of (x ∷ before) k)) (owner_next x k closed before (consequence.Begin b) is)
      ∙ ap (told_after views) told ∙ notices_look_back.after views [] ∙ sym was ∙ sym (unnoted x k closed none (notices_of before k))
  stays_told none closed _ is =
      ap (λ (o : Option Start). notices_to o (told_of (x ∷ before) k)) (owner_next x k closed before _ is)
      ∙ ap (notices_to (owner_of before k)) (untouched x k closed none before) ∙ sym (unnoted x k closed none (notices_of before k))

  -- on the admin queue of a controller it is what is told of the controller's own views
  follows_on : (c : ℕ) (s : Start) → opens event k ≡ false → role_of before k ≡ Some (Admin c) → start_of before c ≡ Some s → IsOwner before k s → Follows
  follows_on c s closed role lives owns =
      let views = views_of s.row in
      let d = decided x k in
      let o = connection_of before k in
      let shown : option_map views_of (row_of before c) ≡ Some views =
      ap (λ (o : Option Start). option_map views_of (option_map (row_with (registers_of before c) (has_queue before c)) o)) lives in
      let was : notices_of before k ≡ told_after views (told_of before k) = ap (λ (o : Option Start). notices_to o (told_of before k)) owns in
      let own : notices_decided (notices_of before k) d ≡ told_after views (with_occurrence (done_at d) (told_of before k)) =
      decision_called views d (notices_of before k) ∙ ap (called_at views (done_at d)) was ∙ sym (one_more views (done_at d) (told_of before k)) in
      let all : noted_at x o (notices_decided (notices_of before k) d)
      ≡ told_after views (with_occurrence (edit_at x o) (with_occurrence (done_at d) (told_of before k))) =
      noted_called views x o (notices_decided (notices_of before k) d) (shows_at x o c views role shown)
      ∙ ap (called_at views (edit_at x o)) own ∙ sym (one_more views (edit_at x o) (with_occurrence (done_at d) (told_of before k))) in
      ap (λ (o : Option Start). notices_to o (told_of (x ∷ before) k)) (owner_stays disks before event k (Admin c) closed role ∙ owns)
      ∙ ap (told_after views) (told_next x k closed before) ∙ sym all ∙ sym (noted_next x k closed (notices_of before k))

  pub notices_step : Follows
  notices_step =
      elim (bool_is (opens event k)) [
        | inl opening ↦ rw opening refl
        | inr closed ↦
            elim (admin_or (role_of before k)) [
              | inl none ↦ stays_told none closed (own_consequence x k) refl
              | inr (c, role) ↦
                  let found = start_is (IsOwner before k) (start_of before c) (all_own disks events k c role) in
                  follows_on c found.0 closed role found.1 found.2
            ]
      ]

  -- What one more event makes of a connection.
  pub connection_step : connection_of (x ∷ before) k ≡ connection_after x k (connection_of before k)
  connection_step = noted_step x before k refl notices_step

-- ---- the law

row_told : (h : List Occurrence) (k : ℕ) (registers : Regs) (queue : ℕ → Bool) (o : Option Start) (row : Row) → IsSomeAnd o (IsOwner h k)
    → option_map (row_with registers queue) o ≡ Some row → notices_of h k ≡ told_after (views_of row) (told_of h k)
row_told h k registers queue None row owns is = absurd owns
row_told h k registers queue (Some s) row owns is =
    let here : row_with registers queue s ≡ row = cc in
    ap (λ (o : Option Start). notices_to o (told_of h k)) owns ∙ ap (λ (r : Row). told_after (views_of r) (told_of h k)) here

owed_by : (t : Option Telling) (views : Views) (s : NoticeState) (earlier : List NoticeOccurrence) → Shows views t → s ≡ told_after views earlier
    → completed_by t s ≡ owed_at t views earlier
owed_by None views s earlier shows is = refl
owed_by (Some t) views s earlier shows is =
    ap (λ (seen : Views). tell_answers t.old t.new seen s) shows ∙ ap (tell_answers t.old t.new views) is
    ∙ sym (notices_look_back.completes views earlier t.old t.new)

met_notices : (known : Bool) (m v : ConnectionState) → (if known then Some m else None) ≡ Some v → v.notices ≡ m.notices
met_notices true m v is =
    let same : v ≡ m = cc in
    ap (λ (c : ConnectionState). c.notices) same
met_notices false m v is = cc

pub hosts_are_told_by_looking_back : HostsAreToldByLookingBack
hosts_are_told_by_looking_back = record {
  told = told;
  next = notices_step;
  completes = λ disks events event k c row v role lives is.
      let h = happened disks events in
      let x = meets_after disks h event in
      let shows = shows_of x v c (views_of row) (ap role_at (sym is) ∙ role) (ap (option_map views_of) lives) in
      let own = met_notices (is_known h k) (met_as h k) v is ∙ told disks events k c row role lives in
      ap (completes_at x) is ∙ owed_by (telling x v) (views_of row) v.notices (told_of h k) shows own;
} where
  told : (disks : Opening) (events : List Event) (k c : ℕ) (row : Row) → role_of (happened disks events) k ≡ Some (Admin c)
      → row_of (happened disks events) c ≡ Some row
      → notices_of (happened disks events) k ≡ told_after (views_of row) (told_of (happened disks events) k)
  told disks events k c row role lives =
      let h = happened disks events in
      row_told h k (registers_of h c) (has_queue h c) (start_of h c) row (all_own disks events k c role) lives
