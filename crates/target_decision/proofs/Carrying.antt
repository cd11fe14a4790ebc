-- What a decision makes of the transfers of its connection.
use Rattle.std.proofs.Common.{◌≡◌, ℕ, ◌+◌, ◌<◌, ◌==◌, ◌&&◌, Bool, true, false, if◌then◌else◌, List, ◌++◌, length, length-append, Option, Some, None, Ok, Err, refl, sym, ap, ◌∙◌, arith}
use Rattle.std.specs.Option.{option_map}
use Rattle.std.proofs.lemmas.Bool.Decides.{nat_tests}
use Rattle.data_transfer.specs.declared.fault.DataFault.{DataFault}
use Rattle.data_transfer.specs.declared.transfer.Progress.{Progress}
use Rattle.data_transfer.specs.declared.transfer.Progress.TheVariants as progress
use Rattle.data_transfer.specs.declared.transfer.Whole.{Whole}
use Rattle.data_transfer.specs.Part.{H2cData, Part, answer_unless, data_after, data_answer, is_whole, left_in, part_after, part_fault, progress_of, whole_in, with_data}
use Rattle.data_transfer.specs.Parts.{Stand, count_of, part_at, with_part}
use Rattle.data_transfer.specs.Whole.{part_of}
use Rattle.fabrics_connect.specs.declared.decision.AdmitAs.{AdmitAs}
use Rattle.fabrics_connect.specs.declared.decision.AdmitAs.TheVariants as admit
use Rattle.pdu_codec.specs.Sqe.{cid_of}
use Rattle.pdu_cut.specs.Front.{Front, whole}
use Rattle.pdu_cut.specs.Pdu.{Pdu, data_part}
use Rattle.target_decision.specs.declared.capsule.Served.TheVariants.{Answered, Asked, Waits}
use Rattle.target_decision.specs.declared.session.ConnectionState.{ConnectionState}
use Rattle.target_decision.specs.declared.session.Role.{Role}
use Rattle.target_decision.specs.declared.session.Role.TheVariants.{Io}
use Rattle.target_decision.specs.declared.session.Session.{Session}
use Rattle.target_decision.specs.declared.session.Session.TheVariants.{Opened, Initialized, Connected, Ended}
use Rattle.target_decision.specs.declared.transfer.WaitingCommand.{WaitingCommand}
use Rattle.target_decision.specs.Capsule.{command, finished, full_by, is_full, owed}
use Rattle.target_decision.specs.Carry.{BringsPart, CarriesWell, IsCapsule, bytes_in}
use Rattle.target_decision.specs.Connect.{admitted}
use Rattle.target_decision.specs.Decision.{decide, entry_of}
use Rattle.target_decision.specs.Outcome.{Outcome}
use Rattle.target_decision.specs.Session.{role_in}
use Rattle.target_decision.specs.Transfer.{Tags, came_of, h2c_of, head_in}
use Rattle.target_decision.specs.World.{World}
use Rattle.target_decision.proofs.Deciding.{Brings, command_is, decision_is, finished_is}

abbrev Parts : Type 0
Parts = List (List (Option (Part WaitingCommand)))

-- ---- an H2CData that is taken

taken : (part : Part WaitingCommand) (pdu : H2cData) (p : Progress) → data_answer (Some part) pdu ≡ Ok p → part_fault part pdu ≡ None
taken part pdu p answers = by (part_fault part pdu) refl where
  by : (fault : Option DataFault) → part_fault part pdu ≡ fault → part_fault part pdu ≡ None
  by None is = is
  by (Some fault) is =
      let clash : Err fault ≡ Ok p = sym (rw is refl) ∙ answers in
      cc

-- .. ends where what came ends
pub data_ends : (part : Part WaitingCommand) (pdu : H2cData) (p : Progress) → data_answer (Some part) pdu ≡ Ok p
    → pdu.offset + pdu.datal ≡ length (part.bytes ++ pdu.bytes)
data_ends part pdu p answers =
    let none = taken part pdu p answers in
    let at : pdu.offset ≡ length part.bytes = grind (arith, nat_tests) in
    let long : pdu.datal ≡ length pdu.bytes = grind (arith, nat_tests) in
    omega (arith, length-append part.bytes pdu.bytes)

-- ---- what is decided

-- a queue that is not full has fewer than 63 commands outstanding
has_room : (s : Session) (count waiting : ℕ) (role : Role) → role_in s ≡ Some role → full_by s (count + waiting) ≡ false → count < 63
has_room Opened count waiting role is room = cc
has_room Initialized count waiting role is room = cc
has_room (Connected r queue) count waiting role is room = grind (arith, nat_tests)
has_room Ended count waiting role is room = cc

abbrev AsksWell : Tags → Outcome → Type 0
AsksWell tags (Ok (Asked len)) = count_of tags < 63
AsksWell tags (Ok (Answered success)) = Unit {0}
AsksWell tags (Ok Waits) = Unit {0}
AsksWell tags (Err refusal) = Unit {0}

admitted_asks : (tags : Tags) (a : AdmitAs) (entry : List ℕ) → AsksWell tags (admitted a entry)
admitted_asks tags (admit.Queue cntlid qid) entry = tt
admitted_asks tags (admit.Controller new) entry = tt

command_asks : (w : World) (v : ConnectionState) (tags : Tags) (entry bytes : List ℕ) → is_full v tags ≡ false → AsksWell tags (command w v tags entry bytes)
command_asks w v tags entry bytes room = command_is w v entry bytes (AsksWell tags) (record {
  refuses = λ r. tt;
  admits = λ none a is. admitted_asks tags a entry;
  tells = λ value. tt;
  configures = λ cntlid role s. tt;
  administers = λ cntlid role c own s is. tt;
  waits = λ cntlid role c own is. tt;
  performs = λ cntlid qid role host port subsystem op is. tt;
  asks = λ cntlid qid role host port subsystem len is. has_room v.session (count_of tags) (length v.notices.events.waiting) (Io cntlid qid) role room;
}) tags

owed_carries : (s : Session) (cid : ℕ) (o : Outcome) (tags : Tags) (front : Front) → IsCapsule front → AsksWell tags o
    → CarriesWell tags (owed s cid None o) front
owed_carries s cid (Ok (Answered success)) tags front capsule h = tt
owed_carries s cid (Ok (Asked len)) tags front capsule h = (h, capsule)
owed_carries s cid (Ok Waits) tags front capsule h = tt
owed_carries s cid (Err refusal) tags front capsule h = tt

brings_part : (tags : Tags) (front : Front) (pdu : Pdu) (part : Part WaitingCommand) (p : Progress) → Brings tags front pdu part p
    → BringsPart tags (head_in pdu).ttag front p
brings_part tags front pdu part p brings = rw (brings.is, brings.found) (brings.kind, brings.answer)

finished_carries : (w : World) (s t : Session) (cid ttag : ℕ) (tags : Tags) (front : Front) (entry : List ℕ) (came : ℕ)
    → BringsPart tags ttag front progress.Whole → CarriesWell tags (owed t cid (Some ttag) (finished w s entry came)) front
finished_carries w s t cid ttag tags front entry came brings =
    finished_is w entry came (λ o. CarriesWell tags (owed t cid (Some ttag) o) front) s (record {
      refuses = λ status. brings;
      performs = λ cntlid qid role host port subsystem op is. brings;
    })

pub decided_carries : (w : World) (v : ConnectionState) (tags : Tags) (front : Front) → CarriesWell tags (decide w v tags front) front
decided_carries w v tags front = decision_is w v tags front (λ d. CarriesWell tags d front) (record {
  closes = tt;
  terminates = λ t. tt;
  initializes = λ opened alignment. tt;
  answers = λ pdu is kind room.
      owed_carries v.session (cid_of (entry_of pdu)) (command w v tags (entry_of pdu) (data_part pdu)) tags front (rw is kind)
      (command_asks w v tags (entry_of pdu) (data_part pdu) room);
  receives = λ pdu part brings. brings_part tags front pdu part progress.More brings;
  completes = λ pdu part brings.
      finished_carries w v.session v.session (head_in pdu).cccid (head_in pdu).ttag tags front part.command.entry
      ((head_in pdu).datao + (head_in pdu).datal) (brings_part tags front pdu part progress.Whole brings);
})

-- ---- transfers, as they are carried on

-- the last data of a transfer make it whole
last_whole : (o : Option (Part WaitingCommand)) (pdu : H2cData) → data_answer o pdu ≡ Ok progress.Whole
    → (part : Part WaitingCommand) × (o ≡ Some part) × (data_after o pdu ≡ Some (with_data pdu.bytes part)) × (is_whole (with_data pdu.bytes part) ≡ true)
last_whole None pdu answers = cc
last_whole (Some part) pdu answers =
    let none = taken part pdu progress.Whole answers in
    let done : answer_unless None (progress_of (with_data pdu.bytes part)) ≡ Ok progress.Whole = rw none at answers in
    let whole : progress_of (with_data pdu.bytes part) ≡ progress.Whole = cc in
    (part, refl, ap (λ f. Some (part_after f pdu part)) none, whole_by (is_whole (with_data pdu.bytes part)) whole)
  where
    whole_by : (b : Bool) → (if b then progress.Whole else progress.More) ≡ progress.Whole → b ≡ true
    whole_by true h = refl
    whole_by false h = cc

ended_bytes : (o : Option (Part WaitingCommand)) (mid : Option (Part WaitingCommand)) (pdu : Pdu) (found : Option (Whole WaitingCommand))
    → data_answer o (h2c_of pdu) ≡ Ok progress.Whole → mid ≡ data_after o (h2c_of pdu) → option_map part_of found ≡ whole_in mid
    → bytes_in found (whole pdu) ≡ came_of o ++ data_part pdu
ended_bytes o mid pdu found answers is finds =
    let last = last_whole o (h2c_of pdu) answers in
    let there : option_map part_of found ≡ Some (with_data (data_part pdu) last.0) =
    finds ∙ ap whole_in (is ∙ last.2) ∙ ap (λ b. if b then Some (with_data (data_part pdu) last.0) else None) last.3 in
    rw last.1 (by found there)
  where
    by : (found : Option (Whole WaitingCommand)) → option_map part_of found ≡ Some (with_data (data_part pdu) (last_whole o (h2c_of pdu) answers).0)
        → bytes_in found (whole pdu) ≡ (last_whole o (h2c_of pdu) answers).0.bytes ++ data_part pdu
    by None there = cc
    by (Some w) there =
        let same : part_of w ≡ with_data (data_part pdu) (last_whole o (h2c_of pdu) answers).0 = cc in
        ap (λ (p : Part WaitingCommand). p.bytes) same

ended_left : (o mid : Option (Part WaitingCommand)) (pdu : H2cData) → data_answer o pdu ≡ Ok progress.Whole → mid ≡ data_after o pdu → left_in mid ≡ None
ended_left o mid pdu answers is =
    let last = last_whole o pdu answers in
    ap left_in (is ∙ last.2) ∙ ap (λ b. if b then None else Some (with_data pdu.bytes last.0)) last.3

same_here : (n : ℕ) → (n == n) ≡ true
same_here n = grind (arith, nat_tests)

-- what stands where it was put
put_there : (parts : ℕ → Tags) (conn ttag : ℕ) (slot : Option (Part WaitingCommand)) → with_part parts conn ttag slot conn ttag ≡ slot
put_there parts conn ttag slot = rw (same_here conn, same_here ttag) refl

ended_stands : (old mid new : Parts) (conn ttag : ℕ) (a b : Option (Part WaitingCommand)) → b ≡ None → Stand mid (with_part (part_at old) conn ttag a)
    → Stand new (with_part (part_at mid) conn ttag b) → Stand new (with_part (part_at old) conn ttag None)
ended_stands old mid new conn ttag a b none came ended =
    record { at = λ j t. ended.at j t ∙ by (j == conn && t == ttag) (part_at mid j t) (part_at old j t) (came.at j t) }
  where
    by : (here : Bool) (m o : Option (Part WaitingCommand)) → m ≡ (if here then a else o) → (if here then b else m) ≡ (if here then None else o)
    by true m o is = none
    by false m o is = is

pub last_bytes : (old mid : Parts) (conn ttag : ℕ) (pdu : Pdu) (found : Option (Whole WaitingCommand))
    → data_answer (part_at old conn ttag) (h2c_of pdu) ≡ Ok progress.Whole
    → Stand mid (with_part (part_at old) conn ttag (data_after (part_at old conn ttag) (h2c_of pdu)))
    → option_map part_of found ≡ whole_in (part_at mid conn ttag) → bytes_in found (whole pdu) ≡ came_of (part_at old conn ttag) ++ data_part pdu
last_bytes old mid conn ttag pdu found answers came finds =
    ended_bytes (part_at old conn ttag) (part_at mid conn ttag) pdu found answers (came.at conn ttag ∙ put_there (part_at old) conn ttag _) finds

pub last_stands : (old mid new : Parts) (conn ttag : ℕ) (pdu : Pdu) → data_answer (part_at old conn ttag) (h2c_of pdu) ≡ Ok progress.Whole
    → Stand mid (with_part (part_at old) conn ttag (data_after (part_at old conn ttag) (h2c_of pdu)))
    → Stand new (with_part (part_at mid) conn ttag (left_in (part_at mid conn ttag))) → Stand new (with_part (part_at old) conn ttag None)
last_stands old mid new conn ttag pdu answers came ended =
    ended_stands old mid new conn ttag _ _
    (ended_left (part_at old conn ttag) (part_at mid conn ttag) (h2c_of pdu) answers (came.at conn ttag ∙ put_there (part_at old) conn ttag _)) came ended
