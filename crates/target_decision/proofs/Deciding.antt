-- What is decided, case by case. What holds in each case of what a command comes to, and of what a front leads to, holds
-- of whatever is decided: a law of decisions is shown of these cases, and knows no table of commands.
use Rattle.std.proofs.Common.{◌≡◌, ℕ, Bool, true, false, ◌&&◌, List, Option, Some, None, Result, Ok, Err, refl, ap}
use Rattle.std.specs.Prelude.{if◌then◌else◌, not, ◌==◌, ◌+◌, nat_lt, length}
use Rattle.admin_queue.specs.declared.outcome.Accepted.TheVariants as accepted
use Rattle.admin_queue.specs.declared.outcome.Success.{Success as AdminSuccess}
use Rattle.admin_queue.specs.Commands.{admin}
use Rattle.admin_queue.specs.Controller.{AdminController}
use Rattle.admin_queue.specs.Outcome.{Outcome as AdminOutcome}
use Rattle.data_transfer.specs.declared.transfer.Progress.{Progress}
use Rattle.data_transfer.specs.declared.transfer.Progress.TheVariants as progress
use Rattle.data_transfer.specs.declared.fault.DataFault.{DataFault}
use Rattle.data_transfer.specs.Part.{Part, data_answer}
use Rattle.fabrics_connect.specs.declared.decision.AdmitAs.{AdmitAs}
use Rattle.fabrics_connect.specs.declared.decision.Decision as connect_decision
use Rattle.fabrics_connect.specs.declared.decision.Decision.TheVariants.{Admit, Deny}
use Rattle.fabrics_connect.specs.declared.row.Row.{Row}
use Rattle.fabrics_connect.specs.Connect.{connect}
use Rattle.io_queue.specs.declared.operation.Operation.{Operation}
use Rattle.io_queue.specs.declared.beginning.Begun.{Begun}
use Rattle.io_queue.specs.declared.beginning.Begun.TheVariants.{Perform, Receive}
use Rattle.io_queue.specs.Beginning.{begin as io_begin}
use Rattle.io_queue.specs.Finishing.{finish as io_finish}
use Rattle.nvt_fields.specs.declared.pdu_type.PduType.{PduType}
use Rattle.nvt_fields.specs.declared.pdu_type.PduType.TheVariants.{IcReq, H2cTermReq, CapsuleCmd, H2cData}
use Rattle.nvt_fields.specs.declared.status.Status.{Status}
use Rattle.nvt_fields.specs.declared.termination.FatalErrorStatus.TheVariants.{LimitExceeded, SequenceError, UnsupportedParameter}
use Rattle.nvt_fields.specs.Status.{command_id_conflict, command_sequence_error, invalid_field}
use Rattle.pdu_codec.specs.Initialize.{ic_req_of, pfv_at}
use Rattle.pdu_codec.specs.Sqe.{cid_of, fctype_of, fuse_of, opcode_of, property_of}
use Rattle.pdu_cut.specs.Front.{Front, incomplete, whole, faulty}
use Rattle.pdu_cut.specs.Pdu.{Pdu, data_part, header_part}
use Rattle.property_regs.specs.declared.regs.InvalidField.{InvalidField}
use Rattle.property_regs.specs.declared.regs.Regs.{Regs}
use Rattle.property_regs.specs.Regs.{configuration_set, property_get}
use Rattle.target_decision.specs.declared.capsule.Served.TheVariants.{Answered, Asked, Waits}
use Rattle.target_decision.specs.declared.capsule.Refusal.{Refusal}
use Rattle.target_decision.specs.declared.consequence.ConfigurationSet.{ConfigurationSet}
use Rattle.target_decision.specs.declared.consequence.Consequence.TheVariants as consequence
use Rattle.target_decision.specs.declared.consequence.Update.TheVariants as update
use Rattle.target_decision.specs.declared.decision.Decision.{Decision}
use Rattle.target_decision.specs.declared.decision.Decision.TheVariants as decision
use Rattle.target_decision.specs.declared.decision.Reply.{Reply}
use Rattle.target_decision.specs.declared.decision.Termination.{Termination}
use Rattle.target_decision.specs.declared.session.ConnectionState.{ConnectionState}
use Rattle.target_decision.specs.declared.session.Role.{Role}
use Rattle.target_decision.specs.declared.session.Role.TheVariants.{Admin, Io}
use Rattle.target_decision.specs.declared.session.Session.{Session}
use Rattle.target_decision.specs.declared.session.Session.TheVariants.{Opened, Initialized, Connected, Ended}
use Rattle.target_decision.specs.declared.transfer.WaitingCommand.{WaitingCommand}
use Rattle.target_decision.specs.Alignment.{aligned}
use Rattle.target_decision.specs.Capsule.{admin_answered, admin_by, answered_with, command, command_in, command_on, connect_type, fabrics_command, fabrics_opcode, finished, finished_by, finished_of, first_command, given_by, head_after, io_begun, io_by, io_finished, io_of, is_full, is_outstanding, is_ready_at, owed, property_get_of, property_get_type, property_set_of, property_set_type, queue_command, refused_with, set_by}
use Rattle.target_decision.specs.Connect.{admitted, answered, connect_on}
use Rattle.target_decision.specs.Controller.{registers_at}
use Rattle.target_decision.specs.Decision.{decide, decide_in, entry_of, first_by, initialize_by, next_by, received_by, terminate}
use Rattle.target_decision.specs.Outcome.{Outcome, asked, done, given, performed, refused, waits}
use Rattle.target_decision.specs.Session.{role_in}
use Rattle.target_decision.specs.Transfer.{Tags, h2c_of, head_in}
use Rattle.target_decision.specs.World.{World, admin_controller}

either : {A : Type 0} (P : A → Type 0) (test : Bool) (a b : A) → P a → P b → P (if test then a else b)
either P true a b h k = h
either P false a b h k = k

-- ---- a command

-- What a command on a connection may come to, by its entry and the data in its capsule: it is refused; a Connect on a
-- connection that is no queue yet is admitted; a Property Get tells a value; on an admin queue Controller Configuration is
-- set, or an admin command has its effect, or waits; on an I/O queue an operation is to be performed, or data are asked for.
pub record Commands (w : World) (v : ConnectionState) (entry bytes : List ℕ) (P : Outcome → Type 0) : Type 0 where
  pub refuses : (r : Refusal) → P (Err r)
  pub admits : role_in v.session ≡ None → (a : AdmitAs) → connect w.config w.row v.port entry bytes ≡ Admit a → P (admitted a entry)
  pub tells : (value : ℕ) → P (done value consequence.Nothing)
  pub configures : (cntlid : ℕ) → role_in v.session ≡ Some (Admin cntlid) → (s : ConfigurationSet)
      → P (done 0 (consequence.Update cntlid (update.Configuration s)))
  pub administers : (cntlid : ℕ) → role_in v.session ≡ Some (Admin cntlid) → (c : AdminController) → admin_controller w v.notices cntlid ≡ Some c
      → (s : AdminSuccess) → admin w.pages w.config c entry ≡ Ok (accepted.Answered s)
      → P (given s.result s.payload (consequence.Update cntlid (update.Command s.effect)))
  pub waits : (cntlid : ℕ) → role_in v.session ≡ Some (Admin cntlid) → (c : AdminController) → admin_controller w v.notices cntlid ≡ Some c
      → admin w.pages w.config c entry ≡ Ok accepted.Waits → P waits
  pub performs : (cntlid qid : ℕ) → role_in v.session ≡ Some (Io cntlid qid) → (host : List ℕ) (port : ℕ) (subsystem : List ℕ) (op : Operation)
      → io_begin w.config host port subsystem entry (length bytes) ≡ Ok (Perform op) → P (performed op)
  pub asks : (cntlid qid : ℕ) → role_in v.session ≡ Some (Io cntlid qid) → (host : List ℕ) (port : ℕ) (subsystem : List ℕ) (len : ℕ)
      → io_begin w.config host port subsystem entry (length bytes) ≡ Ok (Receive len) → P (asked len)

module _ (w : World) (v : ConnectionState) (entry bytes : List ℕ) (P : Outcome → Type 0) (cases : Commands w v entry bytes P) where
  refused_by : (status : Status) → P (refused status)
  refused_by status = cases.refuses (record { status = status; result = 0 })

  connect_by : role_in v.session ≡ None → (d : connect_decision.Decision) → connect w.config w.row v.port entry bytes ≡ d → P (answered d entry)
  connect_by none (Deny status result) is = cases.refuses (record { status = status; result = result })
  connect_by none (Admit a) is = cases.admits none a is

  first_is : role_in v.session ≡ None → P (first_command w v.port entry bytes)
  first_is none =
      either P ((opcode_of entry == fabrics_opcode) && (fctype_of entry == connect_type))
      (connect_on w v.port entry bytes) (refused command_sequence_error)
      (connect_by none (connect w.config w.row v.port entry bytes) refl) (refused_by command_sequence_error)

  get_is : (value : Result ℕ InvalidField) → P (given_by value)
  get_is (Ok value) = cases.tells value
  get_is (Err fault) = refused_by invalid_field

  set_is : (cntlid : ℕ) → role_in v.session ≡ Some (Admin cntlid) → (cc : Result ℕ InvalidField) (registers : Regs) → P (set_by cc registers cntlid)
  set_is cntlid role (Ok cc) registers = cases.configures cntlid role _
  set_is cntlid role (Err fault) registers = refused_by invalid_field

  fabrics_is : (cntlid : ℕ) → role_in v.session ≡ Some (Admin cntlid) → (registers : Regs) → P (fabrics_command registers cntlid entry)
  fabrics_is cntlid role registers =
      let p = property_of entry in
      let sets = set_is cntlid role (configuration_set p.ofst p.attrib p.value) registers in
      let gets = get_is (property_get registers p.ofst p.attrib) in
      either P (fctype_of entry == property_set_type) (property_set_of registers cntlid p) _ sets
      (either P (fctype_of entry == connect_type) (refused command_sequence_error) _ (refused_by command_sequence_error)
      (either P (fctype_of entry == property_get_type) (property_get_of registers p) (refused invalid_field) gets (refused_by invalid_field)))

  effect_is : (cntlid : ℕ) → role_in v.session ≡ Some (Admin cntlid) → (c : AdminController) → admin_controller w v.notices cntlid ≡ Some c
      → (o : AdminOutcome) → admin w.pages w.config c entry ≡ o → P (admin_answered cntlid o)
  effect_is cntlid role c own (Ok (accepted.Answered s)) is = cases.administers cntlid role c own s is
  effect_is cntlid role c own (Ok accepted.Waits) is = cases.waits cntlid role c own is
  effect_is cntlid role c own (Err status) is = refused_by status

  admin_is : (cntlid : ℕ) → role_in v.session ≡ Some (Admin cntlid) → (ready : Bool) (o : Option AdminController) → admin_controller w v.notices cntlid ≡ o
      → P (admin_by ready o w cntlid entry)
  admin_is cntlid role ready None own = refused_by command_sequence_error
  admin_is cntlid role ready (Some c) own =
      let outcome = admin w.pages w.config c entry in
      either P (not ready) (refused command_sequence_error) (admin_answered cntlid outcome) (refused_by command_sequence_error)
      (effect_is cntlid role c own outcome refl)

  operation_is : (cntlid qid : ℕ) → role_in v.session ≡ Some (Io cntlid qid) → (host : List ℕ) (port : ℕ) (subsystem : List ℕ) (o : Result Begun Status)
      → io_begin w.config host port subsystem entry (length bytes) ≡ o → P (io_begun o)
  operation_is cntlid qid role host port subsystem (Ok (Perform op)) is = cases.performs cntlid qid role host port subsystem op is
  operation_is cntlid qid role host port subsystem (Ok (Receive len)) is = cases.asks cntlid qid role host port subsystem len is
  operation_is cntlid qid role host port subsystem (Err status) is = refused_by status

  io_of_is : (cntlid qid : ℕ) → role_in v.session ≡ Some (Io cntlid qid) → (subsystem : Option (List ℕ)) (host : List ℕ) (port : ℕ)
      → P (io_of subsystem host port w entry (length bytes))
  io_of_is cntlid qid role None host port = refused_by command_sequence_error
  io_of_is cntlid qid role (Some subsystem) host port =
      operation_is cntlid qid role host port subsystem (io_begin w.config host port subsystem entry (length bytes)) refl

  io_is : (cntlid qid : ℕ) → role_in v.session ≡ Some (Io cntlid qid) → (o : Option Row) → P (io_by o w entry (length bytes))
  io_is cntlid qid role None = refused_by command_sequence_error
  io_is cntlid qid role (Some row) =
      either P (not row.ready) (refused command_sequence_error) (io_of row.subsystem row.host row.port w entry (length bytes))
      (refused_by command_sequence_error) (io_of_is cntlid qid role row.subsystem row.host row.port)

  queue_is : (role : Role) → role_in v.session ≡ Some role → P (queue_command w v.notices role entry bytes)
  queue_is (Admin cntlid) is =
      either P (opcode_of entry == fabrics_opcode) (fabrics_command (registers_at (w.controller cntlid)) cntlid entry) _
      (fabrics_is cntlid is (registers_at (w.controller cntlid)))
      (admin_is cntlid is (is_ready_at (w.row cntlid)) (admin_controller w v.notices cntlid) refl)
  queue_is (Io cntlid qid) is =
      either P (opcode_of entry == fabrics_opcode) _ (io_by (w.row cntlid) w entry (length bytes))
      (either P (fctype_of entry == connect_type) (refused command_sequence_error) (refused invalid_field)
      (refused_by command_sequence_error) (refused_by invalid_field))
      (io_is cntlid qid is (w.row cntlid))

  in_is : (s : Session) → v.session ≡ s → P (command_in w v s entry bytes)
  in_is Opened is = first_is (ap role_in is)
  in_is Initialized is = first_is (ap role_in is)
  in_is (Connected role queue) is = queue_is role (ap role_in is)
  in_is Ended is = first_is (ap role_in is)

  -- what a command comes to is one of these
  pub command_is : (tags : Tags) → P (command w v tags entry bytes)
  command_is tags =
      either P (is_outstanding v tags (cid_of entry)) (refused command_id_conflict) (command_on w v entry bytes) (refused_by command_id_conflict)
      (either P (not (fuse_of entry == 0)) (refused invalid_field) (command_in w v v.session entry bytes) (refused_by invalid_field)
      (in_is v.session refl))

-- ---- what is owed to it

-- that is a reply, which carries the head of its queue and ends this transfer, or a wish for data, or that it waits
pub owed_is : (P : Decision → Type 0) (s : Session) (cid : ℕ) (transfer : Option ℕ)
    → ((r : Reply) → r.transfer ≡ transfer → r.sqhd ≡ head_after s r.consequence → P (decision.Reply r))
    → ((len : ℕ) → P (decision.Request (record { cid = cid; len = len }))) → P (decision.Wait cid) → (o : Outcome) → P (owed s cid transfer o)
owed_is P s cid transfer replies asks waiting (Ok (Answered success)) = replies (answered_with s cid transfer success) refl refl
owed_is P s cid transfer replies asks waiting (Ok (Asked len)) = asks len
owed_is P s cid transfer replies asks waiting (Ok Waits) = waiting
owed_is P s cid transfer replies asks waiting (Err refusal) = replies (refused_with s cid transfer refusal) refl refl

-- ---- a command whose data have come

-- What that comes to: a status, or an operation.
pub record Endings (w : World) (s : Session) (entry : List ℕ) (came : ℕ) (P : Outcome → Type 0) : Type 0 where
  pub refuses : (status : Status) → P (refused status)
  pub performs : (cntlid qid : ℕ) → role_in s ≡ Some (Io cntlid qid) → (host : List ℕ) (port : ℕ) (subsystem : List ℕ) (op : Operation)
      → io_finish w.config host port subsystem entry came ≡ Ok op → P (performed op)

module _ (w : World) (entry : List ℕ) (came : ℕ) (P : Outcome → Type 0) where
  ends_is : (s : Session) → Endings w s entry came P → (cntlid qid : ℕ) → role_in s ≡ Some (Io cntlid qid) → (host : List ℕ) (port : ℕ) (subsystem : List ℕ)
      (o : Result Operation Status) → io_finish w.config host port subsystem entry came ≡ o → P (io_finished o)
  ends_is s cases cntlid qid role host port subsystem (Ok op) is = cases.performs cntlid qid role host port subsystem op is
  ends_is s cases cntlid qid role host port subsystem (Err status) is = cases.refuses status

  ends_of : (s : Session) → Endings w s entry came P → (cntlid qid : ℕ) → role_in s ≡ Some (Io cntlid qid) → (host : List ℕ) (port : ℕ) (subsystem : Option (List ℕ))
      → P (finished_of subsystem host port w entry came)
  ends_of s cases cntlid qid role host port None = cases.refuses command_sequence_error
  ends_of s cases cntlid qid role host port (Some subsystem) =
      ends_is s cases cntlid qid role host port subsystem (io_finish w.config host port subsystem entry came) refl

  ends_by : (s : Session) → Endings w s entry came P → (cntlid qid : ℕ) → role_in s ≡ Some (Io cntlid qid) → (o : Option Row)
      → P (finished_by o w entry came)
  ends_by s cases cntlid qid role None = cases.refuses command_sequence_error
  ends_by s cases cntlid qid role (Some row) = ends_of s cases cntlid qid role row.host row.port row.subsystem

  -- it is one of these
  pub finished_is : (s : Session) → Endings w s entry came P → P (finished w s entry came)
  finished_is Opened cases = cases.refuses command_sequence_error
  finished_is Initialized cases = cases.refuses command_sequence_error
  finished_is (Connected (Admin cntlid) queue) cases = cases.refuses command_sequence_error
  finished_is (Connected (Io cntlid qid) queue) cases = ends_by (Connected (Io cntlid qid) queue) cases cntlid qid refl (w.row cntlid)
  finished_is Ended cases = cases.refuses command_sequence_error

-- ---- a front

-- An H2CData of a transfer that is there, which has come so far with it.
pub record Brings (tags : Tags) (front : Front) (pdu : Pdu) (part : Part WaitingCommand) (p : Progress) : Type 0 where
  pub is : front ≡ whole pdu
  pub kind : pdu.kind ≡ H2cData
  pub found : tags (head_in pdu).ttag ≡ Some part
  pub answer : data_answer (Some part) (h2c_of pdu) ≡ Ok p

-- What a front may lead to: the connection is closed, or terminated; the first PDU initializes it; a command is owed what it
-- comes to, where one more may be outstanding; the data of an H2CData are taken; or, where they are the last of their
-- transfer, its command is owed what it comes to then.
pub record Decisions (w : World) (v : ConnectionState) (tags : Tags) (front : Front) (P : Decision → Type 0) : Type 0 where
  pub closes : P decision.Close
  pub terminates : (t : Termination) → P (decision.Terminate t)
  pub initializes : v.session ≡ Opened → (alignment : ℕ) → P (decision.Initialize alignment)
  pub answers : (pdu : Pdu) → front ≡ whole pdu → pdu.kind ≡ CapsuleCmd → is_full v tags ≡ false
      → P (owed v.session (cid_of (entry_of pdu)) None (command w v tags (entry_of pdu) (data_part pdu)))
  pub receives : (pdu : Pdu) (part : Part WaitingCommand) → Brings tags front pdu part progress.More → P (decision.Receive (head_in pdu).ttag)
  pub completes : (pdu : Pdu) (part : Part WaitingCommand) → Brings tags front pdu part progress.Whole
      → P (owed v.session (head_in pdu).cccid (Some (head_in pdu).ttag)
      (finished w v.session part.command.entry ((head_in pdu).datao + (head_in pdu).datal)))

module _ (w : World) (v : ConnectionState) (tags : Tags) (front : Front) (P : Decision → Type 0) (cases : Decisions w v tags front P) where
  alignment_is : (o : Option ℕ) → v.session ≡ Opened → P (initialize_by o)
  alignment_is (Some alignment) opened = cases.initializes opened alignment
  alignment_is None opened = cases.terminates _

  initialize_is : (a : Bool) (o : Option ℕ) → v.session ≡ Opened → P (if a then terminate UnsupportedParameter pfv_at else initialize_by o)
  initialize_is a o opened = either P a _ _ (cases.terminates _) (alignment_is o opened)

  first_pdu_is : (pdu : Pdu) (kind : PduType) → v.session ≡ Opened → P (first_by kind pdu)
  first_pdu_is pdu IcReq opened =
      initialize_is (not ((ic_req_of (header_part pdu)).pfv == 0)) (aligned (ic_req_of (header_part pdu)).hpda) opened
  first_pdu_is pdu H2cTermReq opened = cases.closes
  first_pdu_is pdu _ opened = cases.terminates _

  capsule_is : (pdu : Pdu) → front ≡ whole pdu → pdu.kind ≡ CapsuleCmd → (full : Bool) → is_full v tags ≡ full
      → P (if full then terminate SequenceError 0 else
      owed v.session (cid_of (entry_of pdu)) None (command w v tags (entry_of pdu) (data_part pdu)))
  capsule_is pdu is kind true full = cases.terminates _
  capsule_is pdu is kind false full = cases.answers pdu is kind full

  received_is : (pdu : Pdu) → front ≡ whole pdu → pdu.kind ≡ H2cData → (part : Option (Part WaitingCommand)) → tags (head_in pdu).ttag ≡ part
      → (answer : Result Progress DataFault) → data_answer part (h2c_of pdu) ≡ answer → P (received_by w v (head_in pdu) part answer)
  received_is pdu is kind part found (Err fault) answers = cases.terminates _
  received_is pdu is kind None found (Ok p) answers = cc
  received_is pdu is kind (Some part) found (Ok progress.More) answers =
      cases.receives pdu part (record { is = is; kind = kind; found = found; answer = answers })
  received_is pdu is kind (Some part) found (Ok progress.Whole) answers =
      cases.completes pdu part (record { is = is; kind = kind; found = found; answer = answers })

  next_is : (pdu : Pdu) (kind : PduType) → front ≡ whole pdu → pdu.kind ≡ kind → P (next_by kind w v tags pdu)
  next_is pdu H2cTermReq is command = cases.closes
  next_is pdu CapsuleCmd is command =
      either P (nat_lt 8192 (length (data_part pdu))) (terminate LimitExceeded 0) _ (cases.terminates _)
      (capsule_is pdu is command (is_full v tags) refl)
  next_is pdu H2cData is command =
      received_is pdu is command (tags (head_in pdu).ttag) refl (data_answer (tags (head_in pdu).ttag) (h2c_of pdu)) refl
  next_is pdu _ is command = cases.terminates _

  pdu_is : (pdu : Pdu) (s : Session) → front ≡ whole pdu → v.session ≡ s → P (decide_in s w v tags pdu)
  pdu_is pdu Opened is session = first_pdu_is pdu pdu.kind session
  pdu_is pdu Initialized is session = next_is pdu pdu.kind is refl
  pdu_is pdu (Connected role queue) is session = next_is pdu pdu.kind is refl
  pdu_is pdu Ended is session = cases.closes

  front_is : (found : Front) → front ≡ found → P (decide w v tags found)
  front_is incomplete is = cases.closes
  front_is (whole pdu) is = pdu_is pdu v.session is refl
  front_is (faulty fault head) is = cases.terminates _

  -- what is decided is one of these
  pub decision_is : P (decide w v tags front)
  decision_is = front_is front refl
