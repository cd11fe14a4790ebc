-- What is decided is within the disks of the configuration.
use Rattle.std.proofs.Common.{◌≡◌, ℕ, ◌+◌, List, ◌++◌, length, Some, None, Result, Ok, Err, IfOk}
use Rattle.data_transfer.specs.declared.transfer.Progress.{Progress}
use Rattle.data_transfer.specs.declared.transfer.Progress.TheVariants as progress
use Rattle.data_transfer.specs.Part.{Part, data_answer}
use Rattle.nvt_config.specs.Valid.{IsValid}
use Rattle.fabrics_connect.specs.declared.decision.AdmitAs.{AdmitAs}
use Rattle.fabrics_connect.specs.declared.decision.AdmitAs.TheVariants as admit
use Rattle.io_queue.specs.declared.operation.Operation.{Operation}
use Rattle.io_queue.specs.declared.beginning.Begun.{Begun}
use Rattle.io_queue.specs.declared.beginning.Begun.TheVariants.{Perform, Receive}
use Rattle.io_queue.specs.Beginning.{IsBegunWithin}
use Rattle.io_queue.specs.Operation.{IsWithin}
use Rattle.io_queue.proofs.Within.{decided_within as operation_within, finished_within as finish_within}
use Rattle.nvt_fields.specs.declared.status.Status.{Status}
use Rattle.pdu_codec.specs.Sqe.{cid_of}
use Rattle.pdu_cut.specs.Front.{Front}
use Rattle.pdu_cut.specs.Pdu.{Pdu, data_part}
use Rattle.target_decision.specs.declared.capsule.Served.TheVariants.{Answered, Asked, Waits}
use Rattle.target_decision.specs.declared.session.ConnectionState.{ConnectionState}
use Rattle.target_decision.specs.declared.session.Session.{Session}
use Rattle.target_decision.specs.declared.transfer.WaitingCommand.{WaitingCommand}
use Rattle.target_decision.specs.Capsule.{command, finished, owed}
use Rattle.target_decision.specs.Carry.{brought_by}
use Rattle.target_decision.specs.Connect.{admitted}
use Rattle.target_decision.specs.Decision.{PerformsWithin, WithinIn, bytes_at, decide, entry_of, operation_in}
use Rattle.target_decision.specs.Outcome.{Outcome}
use Rattle.target_decision.specs.Transfer.{Tags, h2c_of, head_in}
use Rattle.target_decision.specs.World.{World}
use Rattle.target_decision.proofs.Carrying.{data_ends}
use Rattle.target_decision.proofs.Deciding.{Brings, command_is, decision_is, finished_is}

abbrev IsFit : List ℕ → List ℕ → Outcome → Type 0
IsFit units bytes (Ok (Answered success)) = WithinIn units (operation_in success.answer) bytes
IsFit units bytes (Ok (Asked len)) = Unit {0}
IsFit units bytes (Ok Waits) = Unit {0}
IsFit units bytes (Err refusal) = Unit {0}

admitted_fits : (units : List ℕ) (a : AdmitAs) (entry bytes : List ℕ) → IsFit units bytes (admitted a entry)
admitted_fits units (admit.Queue cntlid qid) entry bytes = tt
admitted_fits units (admit.Controller new) entry bytes = tt

operation_fits : (units : List ℕ) (r : Result Begun Status) (op : Operation) (brings : ℕ) → r ≡ Ok (Perform op) → IfOk r (IsBegunWithin units brings)
    → IsWithin units brings op
operation_fits units (Ok (Perform p)) op brings is h =
    let same : p ≡ op = cc in
    rw same at h
operation_fits units (Ok (Receive len)) op brings is h = cc
operation_fits units (Err status) op brings is h = cc

command_fits : (w : World) (v : ConnectionState) (tags : Tags) (entry bytes : List ℕ) → IsValid w.config → IsFit w.config.units bytes (command w v tags entry bytes)
command_fits w v tags entry bytes valid = command_is w v entry bytes (IsFit w.config.units bytes) (record {
  refuses = λ r. tt;
  admits = λ none a is. admitted_fits w.config.units a entry bytes;
  tells = λ value. tt;
  configures = λ cntlid role s. tt;
  administers = λ cntlid role c own s is. tt;
  waits = λ cntlid role c own is. tt;
  performs = λ cntlid qid role host port subsystem op is.
      operation_fits w.config.units _ op (length bytes) is (operation_within w.config host port subsystem entry (length bytes) valid);
  asks = λ cntlid qid role host port subsystem len is. tt;
}) tags

owed_fits : (units : List ℕ) (s : Session) (cid : ℕ) (o : Outcome) (tags : Tags) (front : Front) → IsFit units (bytes_at front) o
    → PerformsWithin units (owed s cid None o) (brought_by tags (owed s cid None o) front)
owed_fits units s cid (Ok (Answered success)) tags front h = h
owed_fits units s cid (Ok (Asked len)) tags front h = tt
owed_fits units s cid (Ok Waits) tags front h = tt
owed_fits units s cid (Err refusal) tags front h = tt

-- ---- once data have come

-- what came is what came before and what stands at the front
came_is : (part : Part WaitingCommand) (pdu : Pdu) (p : Progress) → data_answer (Some part) (h2c_of pdu) ≡ Ok p
    → (head_in pdu).datao + (head_in pdu).datal ≡ length (part.bytes ++ data_part pdu)
came_is part pdu p answers = data_ends part (h2c_of pdu) p answers

finish_fits : (units : List ℕ) (r : Result Operation Status) (op : Operation) (came : ℕ) → r ≡ Ok op → IfOk r (IsWithin units came) → IsWithin units came op
finish_fits units (Ok p) op came is h =
    let same : p ≡ op = cc in
    rw same at h
finish_fits units (Err status) op came is h = cc

finished_fits : (w : World) (v : ConnectionState) (tags : Tags) (front : Front) (pdu : Pdu) (part : Part WaitingCommand) → IsValid w.config
    → Brings tags front pdu part progress.Whole
    → (o : Outcome) → IsFit w.config.units (part.bytes ++ data_part pdu) o
    → PerformsWithin w.config.units (owed v.session (head_in pdu).cccid (Some (head_in pdu).ttag) o)
    (brought_by tags (owed v.session (head_in pdu).cccid (Some (head_in pdu).ttag) o) front)
finished_fits w v tags front pdu part valid brings (Ok (Answered success)) h = rw (brings.found, brings.is) h
finished_fits w v tags front pdu part valid brings (Ok (Asked len)) h = tt
finished_fits w v tags front pdu part valid brings (Ok Waits) h = tt
finished_fits w v tags front pdu part valid brings (Err refusal) h = tt

finished_within : (w : World) (s : Session) (entry bytes : List ℕ) (came : ℕ) → IsValid w.config → came ≡ length bytes
    → IsFit w.config.units bytes (finished w s entry came)
finished_within w s entry bytes came valid same = finished_is w entry came (IsFit w.config.units bytes) s (record {
  refuses = λ status. tt;
  performs = λ cntlid qid role host port subsystem op is.
      rw (← same) (finish_fits w.config.units _ op came is (finish_within w.config host port subsystem entry came valid));
})

pub decided_within : (w : World) (v : ConnectionState) (tags : Tags) (front : Front) → IsValid w.config
    → PerformsWithin w.config.units (decide w v tags front) (brought_by tags (decide w v tags front) front)
decided_within w v tags front valid = decision_is w v tags front (λ d. PerformsWithin w.config.units d (brought_by tags d front)) (record {
  closes = tt;
  terminates = λ t. tt;
  initializes = λ opened alignment. tt;
  answers = λ pdu is kind room.
      owed_fits w.config.units v.session (cid_of (entry_of pdu)) (command w v tags (entry_of pdu) (data_part pdu)) tags front
      (rw is (command_fits w v tags (entry_of pdu) (data_part pdu) valid));
  receives = λ pdu part brings. tt;
  completes = λ pdu part brings.
      finished_fits w v tags front pdu part valid brings
      (finished w v.session part.command.entry ((head_in pdu).datao + (head_in pdu).datal))
      (finished_within w v.session part.command.entry (part.bytes ++ data_part pdu) ((head_in pdu).datao + (head_in pdu).datal) valid
      (came_is part pdu progress.Whole brings.answer));
})
