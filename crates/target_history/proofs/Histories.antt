-- Laws of histories.
use Rattle.std.proofs.Common.{◌≡◌, ◌≤◌, ◌<◌, ◌⊎◌, ℕ, ◌+◌, ◌%◌, ◌^◌, ◌==◌, Bool, true, false, ◌&&◌, ◌||◌, List, [], ◌∷◌, ◌++◌, length, length-append, Option, Some, None, Ok, Err, IfOk, is_some, refl, sym, ap, subst, ◌∙◌, inl, inr, append-nil, arith}
use Rattle.std.proofs.Math.Path.{fun_ext}
use Rattle.std.specs.Prelude.{if◌then◌else◌}
use Rattle.std.proofs.lemmas.Bool.{cases_lt}
use Rattle.std.proofs.lemmas.Bool.Decides.{nat_tests}
use Rattle.std.proofs.lemmas.Option.{none-some}
use Rattle.admin_queue.specs.declared.outcome.Accepted.TheVariants as accepted
use Rattle.admin_queue.specs.declared.outcome.Effect.{Effect}
use Rattle.admin_queue.specs.declared.outcome.Effect.TheVariants as effect
use Rattle.admin_queue.specs.declared.outcome.Success.{Success as AdminSuccess}
use Rattle.admin_queue.specs.Commands.{admin}
use Rattle.admin_queue.specs.Controller.{AdminController}
use Rattle.admin_queue.specs.Laws.{LeavesWaiting, waiting_after}
use Rattle.admin_queue.specs.Outcome.{Outcome as AdminOutcome}
use Rattle.admin_queue.proofs.Waiting.{answered_once}
use Rattle.data_transfer.specs.Part.{Part, begun, data_after}
use Rattle.data_transfer.specs.Parts.{count_of, free_tag}
use Rattle.data_transfer.proofs.Tags.{free_within}
use Rattle.event_queue.specs.declared.kind.EventKind.{EventKind}
use Rattle.event_queue.specs.declared.kind.EventKind.TheVariants.{Namespace, Ana, Discovery}
use Rattle.event_queue.specs.Events.{EventState, first_pending, is_full, requested}
use Rattle.fabrics_connect.specs.declared.decision.AdmitAs.{AdmitAs}
use Rattle.fabrics_connect.specs.declared.decision.AdmitAs.TheVariants as admit
use Rattle.fabrics_connect.specs.declared.row.Row.{Row}
use Rattle.admin_queue.specs.Notices.{NoticeState, notices_at_connect}
use Rattle.nvt_fields.specs.declared.pdu_type.PduType.TheVariants.{CapsuleCmd}
use Rattle.pdu_codec.specs.Sqe.{cid_of}
use Rattle.pdu_cut.specs.Pdu.{Pdu, data_part}
use Rattle.property_regs.specs.declared.regs.Change.{Change}
use Rattle.property_regs.specs.declared.regs.Change.TheVariants as change
use Rattle.target_decision.specs.declared.consequence.Consequence.TheVariants as consequence
use Rattle.target_decision.specs.declared.consequence.Update.TheVariants as update
use Rattle.target_decision.specs.declared.controller.Controller.{Controller}
use Rattle.target_decision.specs.declared.decision.Decision.{Decision}
use Rattle.target_decision.specs.declared.decision.Decision.TheVariants as decision
use Rattle.target_decision.specs.declared.decision.Reply.{Reply}
use Rattle.target_decision.specs.declared.session.Session.{Session}
use Rattle.target_decision.specs.declared.transfer.WaitingCommand.{WaitingCommand}
use Rattle.target_decision.specs.Capsule.{command, finished, owed}
use Rattle.target_decision.specs.Carry.{CarriesWell, waiting_at}
use Rattle.target_decision.specs.Connect.{admitted}
use Rattle.target_decision.specs.Notice.{notices_after, notices_changed, notices_followed}
use Rattle.target_decision.specs.Outcome.{Outcome}
use Rattle.target_decision.specs.Transfer.{Tags, h2c_at, head_in}
use Rattle.target_decision.proofs.Carrying.{decided_carries}
use Rattle.target_history.proofs.Tags.{bit, count_of-nothing, count_of-with}
use Rattle.nvt_config.specs.Configuration.{Configuration}
use Rattle.discovery_view.specs.Page.{discovery_page}
use Rattle.discovery_view.specs.Records.{records_of}
use Rattle.pdu_cut.specs.Front.{Front, whole}
use Rattle.target_decision.specs.declared.session.ConnectionState.{ConnectionState}
use Rattle.target_decision.specs.declared.session.Session.TheVariants.{Ended}
use Rattle.target_decision.specs.Decision.{decide, entry_of}
use Rattle.target_decision.specs.Session.{is_ended}
use Rattle.io_queue.specs.Act.{DiskOutcome}
use Rattle.target_decision.specs.World.{World, admin_controller_by}
use Rattle.target_decision.proofs.Deciding.{command_is, decision_is, finished_is, owed_is}
use Rattle.target_history.specs.Event.{Event, edited, front_in, given_up, gives_up, disk_outcome_in, opened, opens, stepped, steps, ticked}
use Rattle.target_history.specs.Occurrence.{Occurrence, completes, completes_at, config_after, decided, decided_on, edit_made, ends, noted_at, notices_decided, parts_after, replies_to, responses_decided, sends, sends_on, tags_decided, telling, told_at}
use Rattle.target_history.specs.History.{Opening, alignment_of, blocks_of, config_of, connection_of, generation_after, generation_of, happened, has_ended, is_known, notices_of, part_of, port_of, meets_after, sent, session_of, world_of}
use Rattle.target_history.specs.Laws.{DeletedPortsEnd, EndedAreSentNothing, PagesChangeByEdits, ResponsesAnswerCapsules, capsules_of, is_capsule, is_edit, outstanding_of, responses_of}
use Rattle.target_history.proofs.Noticing.{notices_step}
use Rattle.target_history.proofs.Steps.{met_as}
use Rattle.target_history.proofs.Telling.{ended_untold, no_telling, told_counted}
use Rattle.target_history.proofs.Tests.{same_here}
use Rattle.target_history.proofs.Transfers.{part_step}

-- ---- an ended connection

silent_on : (w : World) (blocks : ℕ → List (List ℕ)) (m : DiskOutcome) (tags : Tags) (known stepping : Bool) (port alignment : ℕ) (notices : NoticeState) (front : Front)
    → sends_on w blocks m tags (if known then Some (record { port = port; session = Ended; alignment = alignment; notices = notices }) else None)
    (if stepping then decided_on w tags (if known then Some (record { port = port; session = Ended; alignment = alignment; notices = notices }) else None) front else None) front ≡ []
silent_on w blocks m tags true true port alignment notices front = refl
silent_on w blocks m tags true false port alignment notices front = refl
silent_on w blocks m tags false true port alignment notices front = refl
silent_on w blocks m tags false false port alignment notices front = refl

ended_session : (h : List Occurrence) (k : ℕ) → has_ended h k ≡ true → session_of h k ≡ Ended
ended_session h k ended = rw ended refl

both_silent : (s t : List ℕ) → s ≡ [] → t ≡ [] → s ++ t ≡ []
both_silent s t p q = rw (p, q) refl

ended_sends : (disks : Opening) (events : List Event) (event : Event) (k : ℕ) → has_ended (happened disks events) k ≡ true
    → sends (meets_after disks (happened disks events) event) k ≡ []
ended_sends disks events event k ended =
    let before = happened disks events in
    both_silent (replies_to x k) (told_at x (connection_of before k))
    (rw (ended_session before k ended) (silent_on (world_of disks before) (blocks_of disks before) (disk_outcome_in event) (part_of before k) (is_known before k) (steps event k) (port_of before k) (alignment_of before k) (notices_of before k) (front_in event)))
    (quiet_on (is_known before k))
  where
    x : Occurrence
    x = meets_after disks (happened disks events) event

    quiet_on : (known : Bool) → told_at x (if known then Some (met_as (happened disks events) k) else None) ≡ []
    quiet_on true = ended_untold x (met_as (happened disks events) k) (ended_session (happened disks events) k ended)
    quiet_on false = refl

pub ended_are_sent_nothing : EndedAreSentNothing
ended_are_sent_nothing = record {
  silent = λ disks events event k ended opens gives_up.
      rw (opens, gives_up, ended_sends disks events event k ended) (append-nil (sent (happened disks events) k));
}

-- ---- a deleted port

pub deleted_ports_end : DeletedPortsEnd
deleted_ports_end = record {
  ends = λ x before k id edits met known port. rw (edits, met, known, port, same_here id) refl;
}

-- ---- responses

abbrev counted : Bool → ℕ
counted capsule = if capsule then 1 else 0

-- no transfer has a tag past the last
abbrev FewTags : Tags → Type 0
FewTags tags = (t : ℕ) → 63 ≤ t → tags t ≡ None

abbrev waits : NoticeState → ℕ
waits s = length s.events.waiting

-- what is answered, and the transfers and requests that are left, are no more than this capsule and those before
pub record Balances (capsule : Bool) (front : Front) (tags : Tags) (s : NoticeState) (d : Option Decision) : Type 0 where
  pub most : responses_decided d + (count_of (tags_decided d front tags) + waits (notices_decided s d)) ≤ counted capsule + (count_of tags + waits s)
  pub few : FewTags (tags_decided d front tags)

quiet : (capsule : Bool) (front : Front) (tags : Tags) (s : NoticeState) → FewTags tags → Balances capsule front tags s None
quiet capsule front tags s few = record { most = omega arith; few = few }

all_end : (capsule : Bool) (front : Front) (tags : Tags) (s : NoticeState) (d : Decision) → responses_decided (Some d) ≡ 0 → notices_after s d ≡ s
    → ((t : ℕ) → tags_decided (Some d) front tags t ≡ None) → Balances capsule front tags s (Some d)
all_end capsule front tags s d silent same none = record {
  most = omega (arith, count_of-nothing (tags_decided (Some d) front tags) none, silent, ap waits same);
  few = λ t past. none t;
}

asked_balances : (front : Front) (tags : Tags) (s : NoticeState) (cid len : ℕ) → FewTags tags → count_of tags < 63
    → Balances true front tags s (Some (decision.Request (record { cid = cid; len = len })))
asked_balances front tags s cid len few room =
    let free : free_tag tags < 63 = free_within tags room in
    let slot = Some (begun cid (waiting_at front) len) in
    let counts = count_of-with tags (free_tag tags) slot free in
    record {
      most = omega (arith, counts);
      few = λ t past.
          let other : (t == free_tag tags) ≡ false = grind (arith, nat_tests) in
          rw other (few t past);
    }

replied_balances : (front : Front) (tags : Tags) (s : NoticeState) (r : Reply) → r.transfer ≡ None → waits (notices_followed s r.consequence) ≤ waits s → FewTags tags
    → Balances true front tags s (Some (decision.Reply r))
replied_balances front tags s r none fewer few = rw none (record { most = omega (arith, fewer); few = few })

request_waits : (s : EventState) (cid : ℕ) (full : Bool) (kind : Option EventKind) → is_full s ≡ full → first_pending s ≡ kind
    → length (requested s cid).waiting ≤ 1 + length s.waiting
request_waits s cid true kind full first = rw full (omega arith)
request_waits s cid false None full first = rw (full, first) (omega (arith, length-append s.waiting (cid ∷ [])))
request_waits s cid false (Some Namespace) full first = rw (full, first) (omega arith)
request_waits s cid false (Some Ana) full first = rw (full, first) (omega arith)
request_waits s cid false (Some Discovery) full first = rw (full, first) (omega arith)

-- a request that waits came in this capsule
waits_balances : (front : Front) (tags : Tags) (s : NoticeState) (cid : ℕ) → FewTags tags → Balances true front tags s (Some (decision.Wait cid))
waits_balances front tags s cid few =
    let more = request_waits s.events cid (is_full s.events) (first_pending s.events) refl refl in
    record { most = omega (arith, more); few = few }

-- what is answered leaves no more requests waiting
abbrev NotedWell : NoticeState → Decision → Type 0
NotedWell s (decision.Reply r) = waits (notices_followed s r.consequence) ≤ waits s
NotedWell s _ = Unit {0}

set_notes : (s : NoticeState) (c : Change) → waits (notices_changed c s) ≤ waits s
set_notes s change.Reset = omega arith
set_notes s change.Enable = omega arith
set_notes s change.Shutdown = omega arith
set_notes s change.Stay = omega arith

admitted_notes : (n : NoticeState) (s : Session) (cid : ℕ) (a : AdmitAs) (entry : List ℕ) → NotedWell n (owed s cid None (admitted a entry))
admitted_notes n s cid (admit.Queue cntlid qid) entry = omega arith
admitted_notes n s cid (admit.Controller new) entry = omega arith

effect_notes : (s : NoticeState) (e : Effect) (cntlid : ℕ) → waiting_after e s ≡ s.events.waiting
    → waits (notices_followed s (consequence.Update cntlid (update.Command e))) ≤ waits s
effect_notes s (effect.Notices u) cntlid same = omega (arith, ap length same)
effect_notes s effect.Nothing cntlid same = omega arith
effect_notes s effect.KeepAlive cntlid same = omega arith
effect_notes s (effect.KeepAliveTimeout kato) cntlid same = omega arith

-- the controller is told by the connection's own notices
own_notices : (notices : NoticeState) (cntlid : ℕ) (row : Option Row) (own : Option Controller) (c : AdminController)
    → admin_controller_by notices cntlid row own ≡ Some c → c.notices ≡ notices
own_notices notices cntlid None own c is = cc
own_notices notices cntlid (Some row) None c is = cc
own_notices notices cntlid (Some row) (Some own) c is =
    ap (λ (o : Option AdminController). told_of o) (sym is)
  where
    told_of : Option AdminController → NoticeState
    told_of None = notices
    told_of (Some d) = d.notices

answered_notes : (s : NoticeState) (cid : ℕ) (o : AdminOutcome) (success : AdminSuccess) → o ≡ Ok (accepted.Answered success)
    → IfOk o (LeavesWaiting s cid) → waiting_after success.effect s ≡ s.events.waiting
answered_notes s cid (Ok (accepted.Answered t)) success is h =
    let same : t ≡ success = cc in
    rw same at h
answered_notes s cid (Ok accepted.Waits) success is h = cc
answered_notes s cid (Err status) success is h = cc

command_notes : (w : World) (v : ConnectionState) (tags : Tags) (cid : ℕ) (entry bytes : List ℕ)
    → NotedWell v.notices (owed v.session cid None (command w v tags entry bytes))
command_notes w v tags cid entry bytes =
    command_is w v entry bytes (λ o. NotedWell v.notices (owed v.session cid None o)) (record {
      refuses = λ r. omega arith;
      admits = λ none a is. admitted_notes v.notices v.session cid a entry;
      tells = λ value. omega arith;
      configures = λ cntlid role s. set_notes v.notices s.change;
      administers = λ cntlid role c own s is.
          let same = own_notices v.notices cntlid (w.row cntlid) (w.controller cntlid) c own in
          effect_notes v.notices s.effect cntlid
          (rw same at (answered_notes c.notices (cid_of entry) (admin w.pages w.config c entry) s is (answered_once w.pages w.config c entry)));
      waits = λ cntlid role c own is. tt;
      performs = λ cntlid qid role host port subsystem op is. omega arith;
      asks = λ cntlid qid role host port subsystem len is. tt;
    }) tags

owed_balances : (front : Front) (tags : Tags) (n : NoticeState) (s : Session) (cid : ℕ) (o : Outcome) → FewTags tags → NotedWell n (owed s cid None o)
    → CarriesWell tags (owed s cid None o) front → Balances true front tags n (Some (owed s cid None o))
owed_balances front tags n s cid o few =
    owed_is (λ d. NotedWell n d → CarriesWell tags d front → Balances true front tags n (Some d)) s cid None
    (λ r none head noted well. replied_balances front tags n r none noted few)
    (λ len noted well. asked_balances front tags n cid len few well.0)
    (λ noted well. waits_balances front tags n cid few) o

-- the tag of a transfer that is there
tag_within : (tags : Tags) (ttag : ℕ) (part : Part WaitingCommand) → FewTags tags → tags ttag ≡ Some part → ttag < 63
tag_within tags ttag part few found =
    elim (cases_lt ttag 63) [
      | inl within ↦ within
      | inr past ↦ let clash : None ≡ Some part = sym (few ttag past) ∙ found in absurd (none-some part clash)
    ]

ended_balances : (capsule : Bool) (front : Front) (tags : Tags) (n : NoticeState) (ttag : ℕ) (part : Part WaitingCommand) (r : Reply) → r.transfer ≡ Some ttag
    → notices_followed n r.consequence ≡ n → FewTags tags → tags ttag ≡ Some part → Balances capsule front tags n (Some (decision.Reply r))
ended_balances capsule front tags n ttag part r ends same few found =
    let within = tag_within tags ttag part few found in
    let counts = count_of-with tags ttag None within in
    let was : bit (is_some (tags ttag)) ≡ 1 = ap (λ o. bit (is_some o)) found in
    rw ends (record {
      most = omega (arith, counts, was, ap waits same);
      few = λ t past.
          let other : (t == ttag) ≡ false = grind (arith, nat_tests) in
          rw other (few t past);
    })

finished_balances : (w : World) (capsule : Bool) (front : Front) (tags : Tags) (n : NoticeState) (s : Session) (cid ttag : ℕ) (part : Part WaitingCommand) (entry : List ℕ) (came : ℕ)
    → FewTags tags → tags ttag ≡ Some part → Balances capsule front tags n (Some (owed s cid (Some ttag) (finished w s entry came)))
finished_balances w capsule front tags n s cid ttag part entry came few found =
    finished_is w entry came (λ o. Balances capsule front tags n (Some (owed s cid (Some ttag) o))) s (record {
      refuses = λ status. ended_balances capsule front tags n ttag part _ refl refl few found;
      performs = λ cntlid qid role host port subsystem op is. ended_balances capsule front tags n ttag part _ refl refl few found;
    })

received_balances : (capsule : Bool) (front : Front) (tags : Tags) (n : NoticeState) (ttag : ℕ) (part : Part WaitingCommand) → FewTags tags → tags ttag ≡ Some part
    → Balances capsule front tags n (Some (decision.Receive ttag))
received_balances capsule front tags n ttag part few found =
    let within = tag_within tags ttag part few found in
    let slot = data_after (tags ttag) (h2c_at front) in
    let counts = count_of-with tags ttag slot within in
    let was : bit (is_some (tags ttag)) ≡ 1 = ap (λ o. bit (is_some o)) found in
    let is : bit (is_some slot) ≡ 1 = ap (λ o. bit (is_some (data_after o (h2c_at front)))) found in
    record {
      most = omega (arith, counts, was, is);
      few = λ t past.
          let other : (t == ttag) ≡ false = grind (arith, nat_tests) in
          rw other (few t past);
    }

front_balances : (w : World) (v : ConnectionState) (tags : Tags) (front : Front) → FewTags tags
    → Balances (is_capsule front) front tags v.notices (Some (decide w v tags front))
front_balances w v tags front few = decision_is w v tags front (λ d. CarriesWell tags d front → Balances (is_capsule front) front tags v.notices (Some d)) (record {
  closes = λ well. all_end (is_capsule front) front tags v.notices decision.Close refl refl (λ t. refl);
  terminates = λ t well. all_end (is_capsule front) front tags v.notices (decision.Terminate t) refl refl (λ u. refl);
  initializes = λ opened alignment well. record { most = omega arith; few = few };
  answers = λ pdu is kind room well.
      capsule_front pdu is kind (owed_balances front tags v.notices v.session (cid_of (entry_of pdu)) (command w v tags (entry_of pdu) (data_part pdu)) few
      (command_notes w v tags (cid_of (entry_of pdu)) (entry_of pdu) (data_part pdu)) well);
  receives = λ pdu part brings well. received_balances (is_capsule front) front tags v.notices (head_in pdu).ttag part few brings.found;
  completes = λ pdu part brings well.
      finished_balances w (is_capsule front) front tags v.notices v.session (head_in pdu).cccid (head_in pdu).ttag part part.command.entry
      ((head_in pdu).datao + (head_in pdu).datal) few brings.found;
}) (decided_carries w v tags front)
  where
    capsule_front : (pdu : Pdu) → front ≡ whole pdu → pdu.kind ≡ CapsuleCmd → {d : Option Decision} → Balances true front tags v.notices d → Balances (is_capsule front) front tags v.notices d
    capsule_front pdu is kind {d} h = subst (λ (c : Bool). Balances c front tags v.notices d) (sym (rw (is, kind) refl)) h

-- a connection has these notices
abbrev IsNotedBy : Option ConnectionState → NoticeState → Type 0
IsNotedBy None n = Unit {0}
IsNotedBy (Some v) n = v.notices ≡ n

decided_balances : (stepping : Bool) (w : World) (tags : Tags) (n : NoticeState) (o : Option ConnectionState) (front : Front) → FewTags tags → IsNotedBy o n
    → Balances (stepping && is_capsule front) front tags n (if stepping then decided_on w tags o front else None)
decided_balances false w tags n o front few own = quiet false front tags n few
decided_balances true w tags n None front few own = quiet (is_capsule front) front tags n few
decided_balances true w tags n (Some v) front few own = rw (← own) (by (is_ended v.session)) where
  by : (ended : Bool) → Balances (is_capsule front) front tags v.notices (if ended then None else Some (decide w v tags front))
  by true = quiet (is_capsule front) front tags v.notices few
  by false = front_balances w v tags front few

pub record Answers (h : List Occurrence) (k : ℕ) : Type 0 where
  pub most : responses_of h k + outstanding_of h k ≤ capsules_of h k
  pub few : FewTags (part_of h k)

-- an event after which so many requests wait, of which it completes some
answered_by : (opening gone capsule : Bool) (front : Front) (tags : Tags) (n : NoticeState) (d : Option Decision) (before sent completed left first : ℕ)
    → before + (count_of tags + waits n) ≤ sent → Balances capsule front tags n d → completed + left ≡ waits (notices_decided n d) → first ≡ 0
    → ((if opening then 0 else (responses_decided d + completed) + before)
    + (count_of (λ t. if opening || gone then None else tags_decided d front tags t) + (if opening then first else left))
    ≤ (if opening then 0 else counted capsule + sent))
    × FewTags (λ t. if opening || gone then None else tags_decided d front tags t)
answered_by true gone capsule front tags n d before sent completed left first earlier here counts none =
    (omega (arith, count_of-nothing (λ t. None) (λ t. refl), none), λ t past. refl)
answered_by false true capsule front tags n d before sent completed left first earlier here counts none =
    let most = here.most in
    (omega (arith, count_of-nothing (λ t. None) (λ t. refl), most, earlier, counts), λ t past. refl)
answered_by false false capsule front tags n d before sent completed left first earlier here counts none =
    let most = here.most in
    (omega (arith, most, earlier, counts), here.few)

waits_if : (opening : Bool) (m n : NoticeState) → waits (if opening then m else n) ≡ (if opening then waits m else waits n)
waits_if true m n = refl
waits_if false m n = refl

-- what an edit completes of what waits; a connection that is known has the notices that its history says
completed_of : (x : Occurrence) (o : Option ConnectionState) (n m : NoticeState) → IsNotedBy o n → (edit_made x.event x.world.config ≡ None) ⊎ (m ≡ n)
    → length (completes_at x o) + waits (noted_at x o m) ≡ waits m
completed_of x None n m own made = omega arith
completed_of x (Some v) n m own (inl none) =
    rw (no_telling x v none) (omega arith)
completed_of x (Some v) n m own (inr same) =
    let alike : v.notices ≡ m = own ∙ sym same in
    rw alike (told_counted (telling x v) m)

-- an event is an edit, or decides something, but not both
edit_or_step : (event : Event) (k : ℕ) (c : Configuration) (n : NoticeState) (d : Option Decision)
    → (edit_made event c ≡ None) ⊎ (notices_decided n (if steps event k then d else None) ≡ n)
edit_or_step (edited edit) k c n d = inr refl
edit_or_step (opened port m) k c n d = inl refl
edit_or_step (given_up m) k c n d = inl refl
edit_or_step (stepped m front outcome) k c n d = inl refl
edit_or_step (ticked now) k c n d = inl refl

noted_known : (known : Bool) (v : ConnectionState) → IsNotedBy (if known then Some v else None) v.notices
noted_known true v = refl
noted_known false v = tt

answered : (disks : Opening) (events : List Event) (k : ℕ) → Answers (happened disks events) k
answered disks [] k = record { most = omega (arith, count_of-nothing (part_of [] k) (λ t. refl)); few = λ t past. refl }
answered disks (event ∷ events) k =
    let before = happened disks events in
    let x = meets_after disks before event in
    let earlier = answered disks events k in
    let n = notices_of before k in
    let own = noted_known (is_known before k) (met_as before k) in
    let m = notices_decided n (decided x k) in
    let counts = completed_of x (connection_of before k) n m own (edit_or_step event k x.world.config n (decided_on x.world (part_of before k) (connection_of before k) (front_in event))) in
    let here = answered_by (opens event k) (gives_up event k || ends x k) (steps event k && is_capsule (front_in event)) (front_in event) (part_of before k) n
    (decided x k) (responses_of before k) (capsules_of before k) (length (completes x k)) (waits (noted_at x (connection_of before k) m)) (waits notices_at_connect) earlier.most
    (decided_balances (steps event k) x.world (part_of before k) n (connection_of before k) (front_in event) earlier.few own) counts refl in
    let same : part_of (happened disks (event ∷ events)) k ≡ (λ t. parts_after x k (part_of before k) t) = fun_ext (part_step x before k refl refl) in
    record {
      most = subst (λ (tags : Tags). responses_of (x ∷ before) k + (count_of tags + waits (notices_of (x ∷ before) k)) ≤ capsules_of (x ∷ before) k) (sym same)
          (rw (ap waits (notices_step disks events event k) ∙ waits_if (opens event k) notices_at_connect (noted_at x (connection_of before k) m)) here.0);
      few = subst FewTags (sym same) here.1;
    }

pub responses_answer_capsules : ResponsesAnswerCapsules
responses_answer_capsules = record { answer = λ disks events k. (answered disks events k).most }

-- ---- pages

page_stays : (event : Event) (c : Configuration) (n : ℕ) (host : List ℕ) → is_edit event ≡ false
    → discovery_page (generation_after event c host n % 2 ^ 64) (records_of (config_after event c) host)
    ≡ discovery_page (n % 2 ^ 64) (records_of c host)
page_stays (edited edit) c n host h = cc
page_stays _ c n host h = refl

config_stays : (event : Event) (c : Configuration) → is_edit event ≡ false → config_after event c ≡ c
config_stays (edited edit) c h = cc
config_stays _ c h = refl

pub pages_change_by_edits : PagesChangeByEdits
pages_change_by_edits = record {
  stays = λ disks x before host unedited. page_stays x.event (config_of disks before) (generation_of disks before host) host unedited;
  lists = λ disks x before host subsystem above unedited. rw (config_stays x.event (config_of disks before) unedited) refl;
  groups = λ disks x before host subsystem port counts groups_only unedited. rw (config_stays x.event (config_of disks before) unedited) refl;
}
