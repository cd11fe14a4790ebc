-- What stands under the tags of a connection, by looking back, goes on from event to event as each decision carries it on.
use Rattle.std.proofs.Common.{◌≡◌, ◌≤◌, ◌<◌, ℕ, nat_lt, ◌+◌, ◌==◌, Bool, true, false, not, ◌&&◌, ◌||◌, List, [], ◌∷◌, ◌++◌, length, Option, Some, None, Ok, Err, is_some, refl, sym, ap, subst, ◌∙◌, append-nil, append_assoc, arith}
use Rattle.std.proofs.Math.Path.{fun_ext}
use Rattle.std.specs.Prelude.{if◌then◌else◌}
use Rattle.std.specs.Option.{option_map}
use Rattle.std.proofs.lemmas.Bool.{eqb-true}
use Rattle.std.proofs.lemmas.Bool.Decides.{nat_tests}
use Rattle.data_transfer.specs.declared.fault.DataFault.{DataFault}
use Rattle.data_transfer.specs.declared.transfer.Progress.{Progress}
use Rattle.data_transfer.specs.declared.transfer.Progress.TheVariants as progress
use Rattle.data_transfer.specs.Part.{H2cData, Part, begun, data_after, data_answer, part_after, part_fault, progress_of, with_data}
use Rattle.data_transfer.specs.Parts.{free_tag}
use Rattle.fabrics_connect.specs.declared.decision.AdmitAs.{AdmitAs}
use Rattle.fabrics_connect.specs.declared.decision.AdmitAs.TheVariants as admit
use Rattle.admin_queue.specs.Notices.{NoticeState}
use Rattle.nvt_fields.specs.declared.pdu_type.PduType.{PduType}
use Rattle.nvt_fields.specs.declared.pdu_type.PduType.TheVariants as kind
use Rattle.pdu_codec.specs.Sqe.{cid_of}
use Rattle.pdu_cut.specs.Front.{Front, incomplete, whole, faulty}
use Rattle.pdu_cut.specs.Pdu.{Pdu, data_part}
use Rattle.target_decision.specs.declared.decision.Decision.{Decision}
use Rattle.target_decision.specs.declared.decision.Decision.TheVariants as decision
use Rattle.target_decision.specs.declared.decision.Reply.{Reply}
use Rattle.target_decision.specs.declared.session.ConnectionState.{ConnectionState}
use Rattle.target_decision.specs.declared.session.Session.{Session}
use Rattle.target_decision.specs.declared.session.Session.TheVariants.{Opened, Ended}
use Rattle.target_decision.specs.declared.transfer.WaitingCommand.{WaitingCommand}
use Rattle.target_decision.specs.Capsule.{command, finished, owed}
use Rattle.target_decision.specs.Carry.{tags_after, waiting_at}
use Rattle.target_decision.specs.Connect.{admitted}
use Rattle.target_decision.specs.Decision.{decide, decide_in, entry_of, first_by, is_end}
use Rattle.target_decision.specs.Session.{is_ended}
use Rattle.target_decision.specs.Transfer.{Tags, h2c_at, h2c_of, head_in}
use Rattle.target_decision.specs.World.{World}
use Rattle.target_decision.proofs.Carrying.{data_ends}
use Rattle.target_decision.proofs.Deciding.{Brings, command_is, decision_is, finished_is}
use Rattle.target_history.specs.Event.{Event, front_in, gives_up, opens, steps}
use Rattle.target_history.specs.Occurrence.{Occurrence, data_at, data_brought, data_by, decided, decided_on, ends, ends_at, is_end_decided, parts_after, requested_by, requests, tags_decided, terminates}
use Rattle.target_history.specs.History.{Admission, Opening, admission_of, alignment_of, connection_of, data_since, happened, has_ended, is_initialized, is_known, meets_after, notices_of, part_of, port_of, request_of, request_or, responses_since, session_with, unless_whole}
use Rattle.target_history.specs.Laws.{TransfersAreCarriedOn, carried_parts}
use Rattle.target_history.proofs.Asked.{some_asked}
use Rattle.target_history.proofs.Tests.{neither}

abbrev Slot : Type 0
Slot = Option (Part WaitingCommand)

-- what stands where this transfer was begun, and these data came since
abbrev stands : Slot → List ℕ → Slot
stands began bytes = unless_whole (option_map (with_data bytes) began)

-- ---- an H2CData that is taken

-- an H2CData that is taken goes no further than was asked for
record Came (part : Part WaitingCommand) (pdu : H2cData) (p : Progress) : Type 0 where
  after : data_after (Some part) pdu ≡ Some (with_data pdu.bytes part)
  within : length (part.bytes ++ pdu.bytes) ≤ part.asked
  progress : progress_of (with_data pdu.bytes part) ≡ p

came : (part : Part WaitingCommand) (pdu : H2cData) (p : Progress) → data_answer (Some part) pdu ≡ Ok p → Came part pdu p
came part pdu p answers = by (part_fault part pdu) refl where
  by : (fault : Option DataFault) → part_fault part pdu ≡ fault → Came part pdu p
  by None none =
      let ends = data_ends part pdu p answers in
      let bound : pdu.offset + pdu.datal ≤ part.asked = grind (arith, nat_tests) in
      let taken : Ok (progress_of (with_data pdu.bytes part)) ≡ Ok p = rw none at answers in
      record {
        after = ap (λ (f : Option DataFault). Some (part_after f pdu part)) none;
        within = omega (arith, ends, bound);
        progress = cc;
      }
  by (Some fault) is =
      let clash : Err fault ≡ Ok p = sym (rw is refl) ∙ answers in
      cc

more_left : (part : Part WaitingCommand) (pdu : H2cData) → Came part pdu progress.More
    → unless_whole (Some (with_data pdu.bytes part)) ≡ Some (with_data pdu.bytes part)
more_left part pdu taken =
    let within = taken.within in
    let short : (length (part.bytes ++ pdu.bytes) == part.asked) ≡ false = by (length (part.bytes ++ pdu.bytes) == part.asked) taken.progress in
    let test : nat_lt (length (part.bytes ++ pdu.bytes)) part.asked ≡ true = grind (arith, nat_tests) in
    ap (λ (waits : Bool). if waits then Some (with_data pdu.bytes part) else None) test
  where
    by : (full : Bool) → (if full then progress.Whole else progress.More) ≡ progress.More → full ≡ false
    by true is = cc
    by false is = refl

whole_left : (part : Part WaitingCommand) (pdu : H2cData) → Came part pdu progress.Whole → unless_whole (Some (with_data pdu.bytes part)) ≡ None
whole_left part pdu taken =
    let full : (length (part.bytes ++ pdu.bytes) == part.asked) ≡ true = by (length (part.bytes ++ pdu.bytes) == part.asked) taken.progress in
    let test : nat_lt (length (part.bytes ++ pdu.bytes)) part.asked ≡ false = grind (arith, nat_tests) in
    ap (λ (waits : Bool). if waits then Some (with_data pdu.bytes part) else None) test
  where
    by : (full : Bool) → (if full then progress.Whole else progress.More) ≡ progress.Whole → full ≡ true
    by true is = refl
    by false is = cc

-- more data of a transfer that stands come behind those that came
with_more : (began : Slot) (since bytes : List ℕ) (part : Part WaitingCommand) → Some part ≡ stands began since
    → option_map (with_data (since ++ bytes)) began ≡ Some (with_data bytes part)
with_more None since bytes part is = cc
with_more (Some b) since bytes part is = by (nat_lt (length (b.bytes ++ since)) b.asked) is where
  join : (all : List ℕ) → all ≡ (b.bytes ++ since) ++ bytes
      → (let p : Part WaitingCommand = record { cid = b.cid; command = b.command; asked = b.asked; bytes = all } in Some p) ≡ Some (with_data bytes (with_data since b))
  join all same = rw same refl

  by : (waits : Bool) → Some part ≡ (if waits then Some (with_data since b) else None) → Some (with_data (since ++ bytes) b) ≡ Some (with_data bytes part)
  by true here =
      let same : with_data since b ≡ part = cc in
      join (b.bytes ++ (since ++ bytes)) (sym (append_assoc b.bytes since bytes)) ∙ ap (λ (p : Part WaitingCommand). Some (with_data bytes p)) same
  by false here = cc

-- ---- a decision

-- what stood under a tag goes on as the decision carries it on, where that does not end the connection
record GoesOn (tags : Tags) (front : Front) (d : Decision) : Type 0 where
  on : is_end d ≡ false → (t : ℕ) (began : Slot) (since : List ℕ) → tags t ≡ stands began since
      → stands (request_or (requested_by (Some d) front tags t) began) (if is_some (requested_by (Some d) front tags t) then [] else since ++ data_at front t)
      ≡ tags_after d front tags t

-- no data come, and nothing begins
stays : (tags : Tags) (t : ℕ) (began : Slot) (since bytes : List ℕ) → bytes ≡ [] → tags t ≡ stands began since → stands began (since ++ bytes) ≡ tags t
stays tags t began since bytes none stood = ap (stands began) (ap (λ (b : List ℕ). since ++ b) none ∙ append-nil since) ∙ sym stood

abbrev BringsNothing : Front → Type 0
BringsNothing front = (t : ℕ) → data_at front t ≡ []

asked_goes : (tags : Tags) (front : Front) (cid len : ℕ) → BringsNothing front → 0 < len
    → GoesOn tags front (decision.Request (record { cid = cid; len = len }))
asked_goes tags front cid len none some = record { on = λ going t began since stood. by t began since stood (t == free_tag tags) } where
  first : Part WaitingCommand
  first = begun cid (waiting_at front) len

  waits : nat_lt 0 len ≡ true
  waits = grind (arith, nat_tests)

  by : (t : ℕ) (began : Slot) (since : List ℕ) → tags t ≡ stands began since → (here : Bool)
      → stands (request_or (if here then Some first else None) began) (if is_some (if here then Some first else None) then [] else since ++ data_at front t)
      ≡ (if here then Some first else tags t)
  by t began since stood true = ap (λ (b : Bool). if b then Some first else None) waits
  by t began since stood false = stays tags t began since (data_at front t) (none t) stood

replied_goes : (tags : Tags) (front : Front) (r : Reply) → BringsNothing front → r.transfer ≡ None → GoesOn tags front (decision.Reply r)
replied_goes tags front r none no_transfer = record {
  on = λ going t began since stood. rw no_transfer (stays tags t began since (data_at front t) (none t) stood);
}

admitted_goes : (tags : Tags) (front : Front) (s : Session) (cid : ℕ) (a : AdmitAs) (entry : List ℕ) → BringsNothing front
    → GoesOn tags front (owed s cid None (admitted a entry))
admitted_goes tags front s cid (admit.Queue cntlid qid) entry none = replied_goes tags front _ none refl
admitted_goes tags front s cid (admit.Controller new) entry none = replied_goes tags front _ none refl

command_goes : (w : World) (v : ConnectionState) (tags : Tags) (front : Front) (cid : ℕ) (entry bytes : List ℕ) → BringsNothing front
    → GoesOn tags front (owed v.session cid None (command w v tags entry bytes))
command_goes w v tags front cid entry bytes none = command_is w v entry bytes (λ o. GoesOn tags front (owed v.session cid None o)) (record {
  refuses = λ r. replied_goes tags front _ none refl;
  admits = λ unqueued a is. admitted_goes tags front v.session cid a entry none;
  tells = λ value. replied_goes tags front _ none refl;
  configures = λ cntlid role s. replied_goes tags front _ none refl;
  administers = λ cntlid role c own s is. replied_goes tags front _ none refl;
  waits = λ cntlid role c own is. record { on = λ going t began since stood. stays tags t began since (data_at front t) (none t) stood };
  performs = λ cntlid qid role host port subsystem op is. replied_goes tags front _ none refl;
  asks = λ cntlid qid role host port subsystem len is.
      asked_goes tags front cid len none (some_asked w.config host port subsystem entry (length bytes) len is);
}) tags

-- the data of an H2CData go to the tag that it names
named : (front : Front) (pdu : Pdu) (t : ℕ) (here : Bool) → front ≡ whole pdu → pdu.kind ≡ kind.H2cData → (t == (head_in pdu).ttag) ≡ here
    → data_at front t ≡ (if here then data_part pdu else [])
named front pdu t here is names same =
    ap (λ (f : Front). data_at f t) is ∙ ap (λ (p : PduType). data_by p pdu t) names ∙ ap (λ (b : Bool). if b then data_part pdu else []) same

module _ (tags : Tags) (front : Front) (pdu : Pdu) (part : Part WaitingCommand) where
  -- what stands there with them
  named_stands : (p : Progress) → Brings tags front pdu part p → (t : ℕ) (began : Slot) (since : List ℕ) → tags t ≡ stands began since
      → (t == (head_in pdu).ttag) ≡ true → stands began (since ++ data_at front t) ≡ unless_whole (Some (with_data (data_part pdu) part))
  named_stands p brings t began since stood same =
      let found : Some part ≡ stands began since = sym brings.found ∙ ap tags (sym (eqb-true t (head_in pdu).ttag same)) ∙ stood in
      ap (λ (bytes : List ℕ). stands began (since ++ bytes)) (named front pdu t true brings.is brings.kind same)
      ∙ ap unless_whole (with_more began since (data_part pdu) part found)

  other_stays : (p : Progress) → Brings tags front pdu part p → (t : ℕ) (began : Slot) (since : List ℕ) → tags t ≡ stands began since
      → (t == (head_in pdu).ttag) ≡ false → stands began (since ++ data_at front t) ≡ tags t
  other_stays p brings t began since stood other =
      stays tags t began since (data_at front t) (named front pdu t false brings.is brings.kind other) stood

  received_goes : Brings tags front pdu part progress.More → GoesOn tags front (decision.Receive (head_in pdu).ttag)
  received_goes brings = record { on = λ going t began since stood. by t began since stood (t == (head_in pdu).ttag) refl } where
    by : (t : ℕ) (began : Slot) (since : List ℕ) → tags t ≡ stands began since → (here : Bool) → (t == (head_in pdu).ttag) ≡ here
        → stands began (since ++ data_at front t) ≡ (if here then data_after (tags (head_in pdu).ttag) (h2c_at front) else tags t)
    by t began since stood true same =
        let taken = came part (h2c_of pdu) progress.More brings.answer in
        let after : data_after (tags (head_in pdu).ttag) (h2c_at front) ≡ Some (with_data (data_part pdu) part) =
        ap (λ (slot : Slot). data_after slot (h2c_at front)) brings.found ∙ ap (λ (f : Front). data_after (Some part) (h2c_at f)) brings.is ∙ taken.after in
        named_stands progress.More brings t began since stood same ∙ more_left part (h2c_of pdu) taken ∙ sym after
    by t began since stood false other = other_stays progress.More brings t began since stood other

  ended_goes : Brings tags front pdu part progress.Whole → (r : Reply) → r.transfer ≡ Some (head_in pdu).ttag → GoesOn tags front (decision.Reply r)
  ended_goes brings r transfer = record { on = λ going t began since stood. rw transfer (by t began since stood (t == (head_in pdu).ttag) refl) } where
    by : (t : ℕ) (began : Slot) (since : List ℕ) → tags t ≡ stands began since → (here : Bool) → (t == (head_in pdu).ttag) ≡ here
        → stands began (since ++ data_at front t) ≡ (if here then None else tags t)
    by t began since stood true same =
        named_stands progress.Whole brings t began since stood same
        ∙ whole_left part (h2c_of pdu) (came part (h2c_of pdu) progress.Whole brings.answer)
    by t began since stood false other = other_stays progress.Whole brings t began since stood other

  finished_goes : Brings tags front pdu part progress.Whole → (w : World) (s : Session) (cid : ℕ) (entry : List ℕ) (n : ℕ)
      → GoesOn tags front (owed s cid (Some (head_in pdu).ttag) (finished w s entry n))
  finished_goes brings w s cid entry n = finished_is w entry n (λ o. GoesOn tags front (owed s cid (Some (head_in pdu).ttag) o)) s (record {
    refuses = λ status. ended_goes brings _ refl;
    performs = λ cntlid qid role host port subsystem op is. ended_goes brings _ refl;
  })

-- the first PDU of a connection brings no data, or ends it
first_brings : (is : PduType) (pdu : Pdu) (t : ℕ) → is_end (first_by is pdu) ≡ false → data_by is pdu t ≡ []
first_brings kind.H2cData pdu t going = cc
first_brings _ pdu t going = refl

opened_brings : (w : World) (v : ConnectionState) (tags : Tags) (front : Front) (t : ℕ) → v.session ≡ Opened → is_end (decide w v tags front) ≡ false
    → data_at front t ≡ []
opened_brings w v tags incomplete t opened going = refl
opened_brings w v tags (faulty fault head) t opened going = refl
opened_brings w v tags (whole pdu) t opened going =
    first_brings pdu.kind pdu t (ap (λ (s : Session). is_end (decide_in s w v tags pdu)) (sym opened) ∙ going)

decided_goes : (w : World) (v : ConnectionState) (tags : Tags) (front : Front) → is_end (decide w v tags front) ≡ false → GoesOn tags front (decide w v tags front)
decided_goes w v tags front lasts = decision_is w v tags front (GoesOn tags front) (record {
  closes = record { on = λ going t began since stood. cc };
  terminates = λ u. record { on = λ going t began since stood. cc };
  initializes = λ opened alignment. record {
    on = λ going t began since stood. stays tags t began since (data_at front t) (opened_brings w v tags front t opened lasts) stood;
  };
  answers = λ pdu is names room.
      command_goes w v tags front (cid_of (entry_of pdu)) (entry_of pdu) (data_part pdu) (capsule_brings pdu is names);
  receives = λ pdu part brings. received_goes tags front pdu part brings;
  completes = λ pdu part brings.
      finished_goes tags front pdu part brings w v.session (head_in pdu).cccid part.command.entry ((head_in pdu).datao + (head_in pdu).datal);
})
  where
    capsule_brings : (pdu : Pdu) → front ≡ whole pdu → pdu.kind ≡ kind.CapsuleCmd → BringsNothing front
    capsule_brings pdu is names = λ t. rw (is, names) refl

-- ---- an event

-- a connection, known or not, ended or in a session
abbrev met : Bool → Bool → ℕ → ℕ → NoticeState → Session → Option ConnectionState
met known ended port alignment notices s =
    if known then Some (record { port = port; session = if ended then Ended else s; alignment = alignment; notices = notices }) else None

closed_decides : (stepping known ended : Bool) (w : World) (tags : Tags) (port alignment : ℕ) (notices : NoticeState) (s : Session) (front : Front)
    → (ended || not known) ≡ true → (if stepping then decided_on w tags (met known ended port alignment notices s) front else None) ≡ None
closed_decides false known ended w tags port alignment notices s front closed = refl
closed_decides true false ended w tags port alignment notices s front closed = refl
closed_decides true true true w tags port alignment notices s front closed = refl
closed_decides true true false w tags port alignment notices s front closed = cc

-- the same of what an event decides, where it decides something
abbrev GoesOnBy : Bool → Tags → Front → Option Decision → Type 0
GoesOnBy stepping tags front d =
    is_end_decided d ≡ false → (t : ℕ) (began : Slot) (since : List ℕ) → tags t ≡ stands began since
    → stands (request_or (requested_by d front tags t) began)
    (if is_some (requested_by d front tags t) then [] else since ++ (if stepping then data_at front t else []))
    ≡ tags_decided d front tags t

known_goes : (stepping known ended : Bool) (w : World) (tags : Tags) (port alignment : ℕ) (notices : NoticeState) (s : Session) (front : Front)
    → (ended || not known) ≡ false → is_ended s ≡ false
    → GoesOnBy stepping tags front (if stepping then decided_on w tags (met known ended port alignment notices s) front else None)
known_goes stepping known true w tags port alignment notices s front is lasts = cc
known_goes stepping false false w tags port alignment notices s front is lasts = cc
known_goes false true false w tags port alignment notices s front is lasts =
    λ going t began since stood. stays tags t began since [] refl stood
known_goes true true false w tags port alignment notices s front is lasts =
    let v : ConnectionState = record { port = port; session = s; alignment = alignment; notices = notices } in
    rw lasts (λ going t began since stood. (decided_goes w v tags front going).on going t began since stood)

in_session : (a : Option Admission) (initialized : Bool) (n : ℕ) → is_ended (session_with a initialized n) ≡ false
in_session None false n = refl
in_session None true n = refl
in_session (Some a) initialized n = refl

-- what stands after an event, by what it does to the connection, and whether that was ended or known
after_by : (opening giving over known ended : Bool) (began before after : Slot) (since : List ℕ)
    → (over ≡ false → (ended || not known) ≡ false → stands (request_or began before) since ≡ after)
    → ((ended || not known) ≡ true → after ≡ None)
    → (if (not opening && (over || ended)) || not (opening || (not giving && known)) then None else stands (if opening then None else request_or began before) since)
    ≡ (if opening || (giving || over) then None else after)
after_by true giving over known ended began before after since goes none = refl
after_by false true true known ended began before after since goes none = refl
after_by false true false known true began before after since goes none = refl
after_by false true false known false began before after since goes none = refl
after_by false false true known ended began before after since goes none = refl
after_by false false false known true began before after since goes none = sym (none refl)
after_by false false false false false began before after since goes none = sym (none refl)
after_by false false false true false began before after since goes none = goes refl refl

-- What one more event makes of what stands under a tag of a connection.
pub part_step : (x : Occurrence) (before : List Occurrence) (k : ℕ) → x.connection k ≡ connection_of before k → x.parts k ≡ part_of before k → (t : ℕ)
    → part_of (x ∷ before) k t ≡ parts_after x k (part_of before k) t
part_step x before k known parts t =
    after_by (opens x.event k) (gives_up x.event k) (ends x k) (is_known before k) (has_ended before k) (requests x k t) (request_of before k t)
    (tags_decided (decided x k) (front_in x.event) (part_of before k) t)
    (if is_some (requests x k t) then [] else data_since before k t ++ data_brought x k t) goes none
  where
    session : Session
    session = session_with (admission_of before k) (is_initialized before k) (responses_since before k)

    decides : Option ConnectionState → Option Decision
    decides o = if steps x.event k then decided_on x.world (x.parts k) o (front_in x.event) else None

    none : (has_ended before k || not (is_known before k)) ≡ true → tags_decided (decided x k) (front_in x.event) (part_of before k) t ≡ None
    none closed =
        let nothing : decided x k ≡ None =
        ap decides known ∙ closed_decides (steps x.event k) (is_known before k) (has_ended before k) x.world (x.parts k) (port_of before k)
        (alignment_of before k) (notices_of before k) session (front_in x.event) closed in
        let gone : part_of before k t ≡ None = rw closed refl in
        ap (λ (d : Option Decision). tags_decided d (front_in x.event) (part_of before k) t) nothing ∙ gone

    goes : ends x k ≡ false → (has_ended before k || not (is_known before k)) ≡ false
        → stands (request_or (requests x k t) (request_of before k t)) (if is_some (requests x k t) then [] else data_since before k t ++ data_brought x k t)
        ≡ tags_decided (decided x k) (front_in x.event) (part_of before k) t
    goes lasts is =
        let stood : part_of before k t ≡ stands (request_of before k t) (data_since before k t) = rw is refl in
        let on = known_goes (steps x.event k) (is_known before k) (has_ended before k) x.world (x.parts k) (port_of before k) (alignment_of before k)
        (notices_of before k) session (front_in x.event) is (in_session (admission_of before k) (is_initialized before k) (responses_since before k)) in
        let own : GoesOnBy (steps x.event k) (x.parts k) (front_in x.event) (decided x k) =
        subst (λ (o : Option ConnectionState). GoesOnBy (steps x.event k) (x.parts k) (front_in x.event) (decides o)) (sym known) on in
        own (neither (terminates x k) (ends_at x (x.connection k)) lasts).0 t (request_of before k t) (data_since before k t) (ap (λ (tags : Tags). tags t) parts ∙ stood)
        ∙ ap (λ (tags : Tags). tags_decided (decided x k) (front_in x.event) tags t) parts

-- ---- all events

carried : (disks : Opening) (events : List Event) (k t : ℕ) → part_of (happened disks events) k t ≡ carried_parts (happened disks events) k t
carried disks [] k t = refl
carried disks (event ∷ events) k t =
    let before = happened disks events in
    let x = meets_after disks before event in
    part_step x before k refl refl t ∙ ap (λ (tags : Tags). parts_after x k tags t) (fun_ext (carried disks events k))

pub transfers_are_carried_on : TransfersAreCarriedOn
transfers_are_carried_on = record { carried = carried }
