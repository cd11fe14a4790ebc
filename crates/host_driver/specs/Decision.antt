-- What a host's queue owes to a PDU (TCP Transport 1.0, section 3.6). The faults of each PDU are asked
-- for in a fixed order, and the first that it has is answered.
use Rattle.std.specs.Prelude.{ℕ, ◌+◌, ◌%◌, ◌^◌, nat_lt, not, ◌==◌, ◌||◌, ◌&&◌, Bool, List, length, Option, Some, None, if◌then◌else◌}
use Rattle.nvt_fields.specs.Field.{field_at}
use Rattle.nvt_fields.specs.declared.pdu_type.PduType.{PduType}
use Rattle.nvt_fields.specs.declared.pdu_type.PduType.TheVariants.{IcResp, C2hTermReq, CapsuleResp, C2hData, R2t}
use Rattle.nvt_fields.specs.declared.status.Status.{Status}
use Rattle.nvt_fields.specs.declared.termination.FatalErrorStatus.{FatalErrorStatus}
use Rattle.nvt_fields.specs.declared.termination.FatalErrorStatus.TheVariants.{InvalidHeaderField, SequenceError, DataOutOfRange, UnsupportedParameter}
use Rattle.pdu_cut.specs.Pdu.{Pdu, header_part, data_part}
use Rattle.pdu_codec.specs.declared.data_head.DataHead.{DataHead}
use Rattle.pdu_codec.specs.declared.initialize.IcResp as ic_resp
use Rattle.pdu_codec.specs.declared.r2t.R2t as r2t
use Rattle.pdu_codec.specs.declared.termination.TermReq.{TermReq}
use Rattle.pdu_codec.specs.Cqe.{completed_cid_of, completion_in, result_of, status_of}
use Rattle.pdu_codec.specs.DataHead.{data_head_of}
use Rattle.pdu_codec.specs.Initialize.{ic_resp_of}
use Rattle.pdu_codec.specs.R2t.{r2t_of}
use Rattle.host_driver.specs.declared.decision.CommandCompletion.{CommandCompletion}
use Rattle.host_driver.specs.declared.decision.HostDecision.{HostDecision}
use Rattle.host_driver.specs.declared.decision.HostDecision.TheVariants as decision
use Rattle.host_driver.specs.declared.outstanding.Outstanding.{Outstanding}
use Rattle.host_driver.specs.declared.phase.Phase.{Phase}
use Rattle.host_driver.specs.declared.phase.Phase.TheVariants.{Opened, Initialized, Connected, Failed}

-- ---- what a PDU says

-- what a termination request says
abbrev pub term_req_of : List ℕ → TermReq
term_req_of header = record { fes = field_at 2 8 header; fei = field_at 4 10 header }

-- the entry that a CapsuleResp brings
abbrev pub entry_in : Pdu → List ℕ
entry_in pdu = completion_in (header_part pdu)

-- .. and what it says of the command that it completes
abbrev pub response_in : Pdu → CommandCompletion
response_in pdu = record {
  cid = completed_cid_of (entry_in pdu);
  status = status_of (entry_in pdu);
  result = result_of (entry_in pdu);
}

-- the identifier of the command that a PDU of this type names
abbrev pub cid_by : PduType → Pdu → Option ℕ
cid_by CapsuleResp pdu = Some (completed_cid_of (entry_in pdu))
cid_by C2hData pdu = Some (data_head_of (header_part pdu)).cccid
cid_by R2t pdu = Some (r2t_of (header_part pdu)).cccid
cid_by _ pdu = None

-- of a controller's PDUs ICResp and C2HTermReq are about the connection, each other one is about one command
abbrev pub cid_named : Pdu → Option ℕ
cid_named pdu = cid_by pdu.kind pdu

abbrev pub is_success : Status → Bool
is_success s = s.sct == 0 && s.sc == 0

-- ---- the first PDU

-- the host ends the connection by an H2CTermReq: its information is the offset of the field at fault, or 0
abbrev pub terminate : FatalErrorStatus → ℕ → HostDecision
terminate fes fei = decision.Terminate (record { fes = fes; fei = fei })

-- an ICResp that comes first
abbrev pub initialize : ic_resp.IcResp → HostDecision
initialize r =
    if not (r.pfv == 0) then terminate UnsupportedParameter 8 else
    if nat_lt 31 r.cpda then terminate InvalidHeaderField 10 else
    if not (r.dgst == 0) then terminate UnsupportedParameter 11 else
    if nat_lt r.maxh2cdata 4096 || not (r.maxh2cdata % 4 == 0) then terminate InvalidHeaderField 12 else
    decision.Initialize (record { cpda = r.cpda; maxh2cdata = r.maxh2cdata })

-- the ICResp comes before all else, but a controller may end the connection instead
abbrev pub first_by : PduType → Pdu → HostDecision
first_by IcResp pdu = initialize (ic_resp_of (header_part pdu))
first_by C2hTermReq pdu = decision.Close (term_req_of (header_part pdu))
first_by _ pdu = terminate SequenceError 0

-- ---- the PDUs after it

-- a command succeeds before all of its data came
abbrev pub is_early : Outstanding → Status → Bool
is_early command status = is_success status && nat_lt command.came command.into

-- the reply to the Connect: its result has the CNTLID in bits 15:0
abbrev pub connected : CommandCompletion → HostDecision
connected response =
    if is_success response.status then decision.Connect (response.result % 2 ^ 16) else
    decision.Refuse response.status

-- a response, of the Connect until that succeeded
abbrev pub answered_in : Phase → CommandCompletion → HostDecision
answered_in (Connected limits) response = decision.Complete response
answered_in _ response = connected response

-- a response is of an outstanding command, by its CID at byte 20; success comes only behind all the data that it wanted
abbrev pub completed : Phase → Option Outstanding → CommandCompletion → HostDecision
completed phase None response = terminate InvalidHeaderField 20
completed phase (Some command) response =
    if is_early command response.status then terminate SequenceError 0 else
    answered_in phase response

-- C2HData in their place, that end here
abbrev pub accepted : Outstanding → DataHead → ℕ → HostDecision
accepted command head end =
    if not head.success then decision.Receive head.cccid else
    if not head.last_pdu then terminate InvalidHeaderField 1 else
    if nat_lt end command.into then terminate SequenceError 0 else
    decision.ReceiveLast head.cccid

-- C2HData that carry so many bytes
abbrev pub received : Option Outstanding → DataHead → ℕ → HostDecision
received None head carried = terminate InvalidHeaderField 8
received (Some command) head carried =
    if command.into == 0 then terminate InvalidHeaderField 8 else
    if not (head.datal == carried) then terminate InvalidHeaderField 16 else
    if not (head.datao == command.came) || nat_lt command.into (command.came + head.datal) then terminate DataOutOfRange 0 else
    accepted command head (command.came + head.datal)

-- R2Ts ask for a command's data in order, each byte once, and not past their end; CCCID stands at byte 8
abbrev pub requested : Option Outstanding → r2t.R2t → HostDecision
requested None request = terminate InvalidHeaderField 8
requested (Some command) request =
    if command.out == 0 then terminate InvalidHeaderField 8 else
    if not (request.r2to == command.asked) || nat_lt command.out (command.asked + request.r2tl) then terminate DataOutOfRange 0 else
    decision.Send request

-- there is one ICResp, and a controller sends none of the PDUs that are a host's
abbrev pub next_by : PduType → Phase → Option Outstanding → Pdu → HostDecision
next_by C2hTermReq phase command pdu = decision.Close (term_req_of (header_part pdu))
next_by CapsuleResp phase command pdu = completed phase command (response_in pdu)
next_by C2hData phase command pdu =
    received command (data_head_of (header_part pdu)) (length (data_part pdu))
next_by R2t phase command pdu = requested command (r2t_of (header_part pdu))
next_by _ phase command pdu = terminate SequenceError 0

-- a whole PDU, where this is the outstanding command that it names
abbrev pub decide : Phase → Option Outstanding → Pdu → HostDecision
decide Opened command pdu = first_by pdu.kind pdu
decide (Initialized limits) command pdu = next_by pdu.kind (Initialized limits) command pdu
decide (Connected limits) command pdu = next_by pdu.kind (Connected limits) command pdu
decide Failed command pdu = next_by pdu.kind Failed command pdu
