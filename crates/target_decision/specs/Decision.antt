-- What is owed to a PDU, and what a decision sends.
use Rattle.std.specs.Prelude.{ℕ, ◌≤◌, nat_lt, not, ◌==◌, List, [], ◌++◌, length, ◌+◌, Option, Some, None, Result, Ok, Err, Bool, true, false, if◌then◌else◌}
use Rattle.admin_queue.specs.declared.payload.Payload.{Payload}
use Rattle.admin_queue.specs.Controller.{AdminController}
use Rattle.admin_queue.specs.Payload.{payload_bytes}
use Rattle.data_transfer.specs.declared.fault.DataFault.{DataFault}
use Rattle.data_transfer.specs.declared.transfer.Progress.{Progress}
use Rattle.data_transfer.specs.declared.transfer.Progress.TheVariants as progress
use Rattle.data_transfer.specs.DataFault.{fei_of, fes_of}
use Rattle.data_transfer.specs.Part.{Part, data_answer}
use Rattle.io_queue.specs.declared.operation.Operation.{Operation}
use Rattle.io_queue.specs.Act.{DiskOutcome}
use Rattle.io_queue.specs.Execution.{Act, act_of, returned, status_by}
use Rattle.io_queue.specs.Operation.{IsWithin, disk_of}
use Rattle.io_queue.specs.declared.reply.DataFormat.{DataFormat}
use Rattle.io_queue.specs.Reply.{returned_pdus}
use Rattle.nvt_fields.specs.FatalErrorStatus.{fatal_code_of}
use Rattle.nvt_fields.specs.declared.status.Status.{Status}
use Rattle.nvt_fields.specs.declared.pdu_type.PduType.{PduType}
use Rattle.nvt_fields.specs.declared.pdu_type.PduType.TheVariants.{IcReq, H2cTermReq, CapsuleCmd, H2cData}
use Rattle.nvt_fields.specs.declared.termination.FatalErrorStatus.{FatalErrorStatus}
use Rattle.nvt_fields.specs.declared.termination.FatalErrorStatus.TheVariants.{InvalidHeaderField, SequenceError, LimitExceeded, UnsupportedParameter}
use Rattle.pdu_codec.specs.declared.initialize.IcReq as ic_req
use Rattle.pdu_codec.specs.CapsuleResp.{capsule_resp}
use Rattle.pdu_codec.specs.declared.data_head.DataHead.{DataHead}
use Rattle.pdu_codec.specs.Initialize.{hpda_at, ic_req_of, ic_resp, pfv_at}
use Rattle.pdu_codec.specs.R2t.{r2t}
use Rattle.pdu_codec.specs.Sqe.{cid_of, entry_in}
use Rattle.pdu_codec.specs.TermReq.{c2h_term_req}
use Rattle.pdu_cut.specs.Front.{Front, incomplete, whole, faulty}
use Rattle.pdu_cut.specs.Pdu.{Pdu, header_part, data_part}
use Rattle.target_decision.specs.declared.decision.ReplyAnswer.{ReplyAnswer}
use Rattle.target_decision.specs.declared.decision.ReplyAnswer.TheVariants as answer
use Rattle.target_decision.specs.declared.decision.Decision.{Decision}
use Rattle.target_decision.specs.declared.decision.Decision.TheVariants as decision
use Rattle.target_decision.specs.declared.decision.Reply.{Reply}
use Rattle.target_decision.specs.declared.session.ConnectionState.{ConnectionState}
use Rattle.target_decision.specs.declared.session.Session.{Session}
use Rattle.target_decision.specs.declared.session.Session.TheVariants.{Opened, Initialized, Connected, Ended}
use Rattle.target_decision.specs.Alignment.{aligned}
use Rattle.target_decision.specs.declared.transfer.WaitingCommand.{WaitingCommand}
use Rattle.target_decision.specs.Capsule.{command, finished, is_full, owed}
use Rattle.target_decision.specs.Transfer.{Tags, h2c_of, head_in}
use Rattle.target_decision.specs.World.{World, admin_controller_in}

-- ---- what is owed to a PDU (TCP Transport 1.0, section 3.6; Base 2.0, sections 5 and 6)

-- the target ends the connection by a C2HTermReq: its information is the offset of the field at fault, or 0
abbrev pub terminate : FatalErrorStatus → ℕ → Decision
terminate fes fei = decision.Terminate (record { fes = fes; fei = fei })

abbrev pub initialize_by : Option ℕ → Decision
initialize_by (Some alignment) = decision.Initialize alignment
initialize_by None = terminate InvalidHeaderField hpda_at

-- an ICReq that comes first
abbrev pub initialize : ic_req.IcReq → Decision
initialize request =
    if not (request.pfv == 0) then terminate UnsupportedParameter pfv_at else initialize_by (aligned request.hpda)

-- the first PDU of a connection
abbrev pub first_by : PduType → Pdu → Decision
first_by IcReq pdu = initialize (ic_req_of (header_part pdu))
first_by H2cTermReq pdu = decision.Close
first_by _ pdu = terminate SequenceError 0

-- the submission queue entry of a capsule
abbrev pub entry_of : Pdu → List ℕ
entry_of pdu = entry_in (header_part pdu)

-- .. as it waits for its data
abbrev pub waiting_in : Pdu → WaitingCommand
waiting_in pdu = record { entry = entry_of pdu }

-- a capsule, with at most 8,192 bytes of data, where one more command may be outstanding
abbrev pub capsule : World → ConnectionState → Tags → Pdu → Decision
capsule w v tags pdu =
    if nat_lt 8192 (length (data_part pdu)) then terminate LimitExceeded 0 else
    if is_full v tags then terminate SequenceError 0 else
    owed v.session (cid_of (entry_of pdu)) None (command w v tags (entry_of pdu) (data_part pdu))

-- the last data of a transfer: its command is finished with all that came, up to the end of these
abbrev pub completed : World → ConnectionState → DataHead → Option (Part WaitingCommand) → Decision
completed w v head None = decision.Close
completed w v head (Some part) =
    owed v.session head.cccid (Some head.ttag) (finished w v.session part.command.entry (head.datao + head.datal))

abbrev pub received_by : World → ConnectionState → DataHead → Option (Part WaitingCommand) → Result Progress DataFault → Decision
received_by w v head part (Ok progress.More) = decision.Receive head.ttag
received_by w v head part (Ok progress.Whole) = completed w v head part
received_by w v head part (Err fault) = terminate (fes_of fault) (fei_of fault)

-- an H2CData, by how its transfer takes it
abbrev pub received : World → ConnectionState → Tags → Pdu → Decision
received w v tags pdu =
    received_by w v (head_in pdu) (tags (head_in pdu).ttag) (data_answer (tags (head_in pdu).ttag) (h2c_of pdu))

-- a PDU after the first
abbrev pub next_by : PduType → World → ConnectionState → Tags → Pdu → Decision
next_by H2cTermReq w v tags pdu = decision.Close
next_by CapsuleCmd w v tags pdu = capsule w v tags pdu
next_by H2cData w v tags pdu = received w v tags pdu
next_by _ w v tags pdu = terminate SequenceError 0

-- a whole PDU, in a session
abbrev pub decide_in : Session → World → ConnectionState → Tags → Pdu → Decision
decide_in Opened w v tags pdu = first_by pdu.kind pdu
decide_in Initialized w v tags pdu = next_by pdu.kind w v tags pdu
decide_in (Connected role queue) w v tags pdu = next_by pdu.kind w v tags pdu
decide_in Ended w v tags pdu = decision.Close

-- which types of PDUs may come depends on how far the connection has come, and on nothing else
abbrev pub decide_pdu : World → ConnectionState → Tags → Pdu → Decision
decide_pdu w v tags pdu = decide_in v.session w v tags pdu

-- what stands at the front of the stream of a connection with these transfers
abbrev pub decide : World → ConnectionState → Tags → Front → Decision
decide w v tags incomplete = decision.Close
decide w v tags (whole pdu) = decide_pdu w v tags pdu
decide w v tags (faulty fault head) = terminate fault.fes fault.fei

-- whether a decision ends the connection
abbrev pub is_end : Decision → Bool
is_end (decision.Initialize alignment) = false
is_end (decision.Reply r) = false
is_end (decision.Request q) = false
is_end (decision.Receive ttag) = false
is_end (decision.Wait cid) = false
is_end (decision.Terminate t) = true
is_end decision.Close = true

-- ---- what a decision sends

-- the bytes that a controller returns, where it returns any
abbrev pub payload_at : World → Option AdminController → Option Payload → Option (List ℕ)
payload_at w c None = None
payload_at w None (Some payload) = None
payload_at w (Some c) (Some payload) = Some (payload_bytes payload w.pages w.config c)

abbrev pub payload_in : ReplyAnswer → Option Payload
payload_in (answer.Given g) = g.«data»
payload_in (answer.Performed op) = None

-- what a decision returns of its controller
abbrev pub payload_of : Decision → Option Payload
payload_of (decision.Reply r) = payload_in r.answer
payload_of _ = None

-- the bytes of it, on a connection: commands on admin queues alone return any
abbrev pub data_of : World → ConnectionState → Decision → Option (List ℕ)
data_of w v d = payload_at w (admin_controller_in w v) (payload_of d)

-- what a reply says, and the C2HData of what it returns
pub record Said : Type 0 where
  pub status : Status
  pub result : ℕ
  pub data_pdus : List ℕ

abbrev pub response_of : Reply → Status → ℕ → List ℕ
response_of r status result = capsule_resp (record { result = result; sqhd = r.sqhd; cid = r.cid; status = status })

-- what all C2HData of a reply have in common, to a host with this alignment of data
abbrev pub format_of : Reply → ℕ → DataFormat
format_of r alignment = record { cid = r.cid; hpda = alignment }

-- the data, where there are any, and then the response
abbrev pub reply_wire : Reply → Said → List ℕ
reply_wire r said = said.data_pdus ++ response_of r said.status said.result

-- what a termination returns of the PDU in error: its header, or the 8 bytes that are faulty
abbrev pub head_of : Front → List ℕ
head_of incomplete = []
head_of (whole pdu) = header_part pdu
head_of (faulty fault head) = head

-- ---- what a decision does, where the disks held this and did that

-- what is brought for a decision: the tag of a transfer that it begins, and the bytes for its operation
pub record Brought : Type 0 where
  pub ttag : ℕ
  pub bytes : List ℕ

-- the data of the PDU at a front
abbrev pub bytes_at : Front → List ℕ
bytes_at (whole pdu) = data_part pdu
bytes_at incomplete = []
bytes_at (faulty fault head) = []

-- what an answer says, with the data that it returns of its controller, where it returns any
abbrev pub said_by : DataFormat → ReplyAnswer → Option (List ℕ) → List ℕ → (ℕ → List (List ℕ)) → DiskOutcome → Said
said_by format (answer.Given g) payload bytes contents m =
    record { status = g.status; result = g.result; data_pdus = returned_pdus format payload }
said_by format (answer.Performed op) payload bytes contents m = record {
  status = status_by op bytes (contents (disk_of op)) m;
  result = 0;
  data_pdus = returned_pdus format (returned op (contents (disk_of op)) m);
}

-- the bytes that a decision sends on a front to a host with this alignment of data, with what is brought for it and the
-- data that it returns of its controller
abbrev pub wire_of : ℕ → Decision → Front → Brought → Option (List ℕ) → (ℕ → List (List ℕ)) → DiskOutcome → List ℕ
wire_of alignment (decision.Initialize asked) front b payload contents m =
    ic_resp (record { pfv = 0; cpda = 0; dgst = 0; maxh2cdata = 16384 })
wire_of alignment (decision.Reply r) front b payload contents m =
    reply_wire r (said_by (format_of r alignment) r.answer payload b.bytes contents m)
wire_of alignment (decision.Request q) front b payload contents m =
    r2t (record { cccid = q.cid; ttag = b.ttag; r2to = 0; r2tl = q.len })
wire_of alignment (decision.Receive ttag) front b payload contents m = []
wire_of alignment (decision.Wait cid) front b payload contents m = []
wire_of alignment (decision.Terminate t) front b payload contents m = c2h_term_req (fatal_code_of t.fes) t.fei (head_of front)
wire_of alignment decision.Close front b payload contents m = []

-- .. on a connection
abbrev pub sent_by : World → (ℕ → List (List ℕ)) → DiskOutcome → ConnectionState → Decision → Front → Brought → List ℕ
sent_by w contents m v d front b = wire_of v.alignment d front b (data_of w v d) contents m

abbrev pub operation_in : ReplyAnswer → Option Operation
operation_in (answer.Given g) = None
operation_in (answer.Performed op) = Some op

-- the operation that a decision is to perform
abbrev pub operation_of : Decision → Option Operation
operation_of (decision.Reply r) = operation_in r.answer
operation_of _ = None

abbrev pub act_in : Option Operation → List ℕ → DiskOutcome → Option Act
act_in None bytes m = None
act_in (Some op) bytes m = act_of op bytes m

-- what a decision writes to a disk
abbrev pub act_by : Decision → Brought → DiskOutcome → Option Act
act_by d b m = act_in (operation_of d) b.bytes m

abbrev pub WithinIn : List ℕ → Option Operation → List ℕ → Type 0
WithinIn units None bytes = Unit {0}
WithinIn units (Some op) bytes = IsWithin units (length bytes) op

-- disks of these sizes have what a decision asks of them
abbrev pub PerformsWithin : List ℕ → Decision → Brought → Type 0
PerformsWithin units d b = WithinIn units (operation_of d) b.bytes

-- what a decision on this front is performed with: a head that a termination has room for, and disks of these sizes that
-- have what it asks of them
pub record CanPerform (units : List ℕ) (d : Decision) (b : Brought) (front : Front) : Type 0 where
  pub head : length (head_of front) ≤ 128
  pub within : PerformsWithin units d b

-- ---- what else a step does with the front

-- how many bytes a step consumes: the PDU at the front
abbrev pub consumed_of : Front → ℕ
consumed_of incomplete = 0
consumed_of (whole pdu) = length pdu.bytes
consumed_of (faulty fault head) = 0
