-- A command capsule, by its submission queue entry and the data that it brings (Base 2.0, sections 5
-- and 6).
use Rattle.std.specs.Prelude.{ℕ, ◌+◌, nat_eq, nat_le, min, Bool, false, not, ◌==◌, ◌&&◌, ◌||◌, List, length, Option, Some, None, Result, Ok, Err, if◌then◌else◌}
use Rattle.admin_queue.specs.declared.outcome.Accepted.TheVariants as accepted
use Rattle.admin_queue.specs.Commands.{admin}
use Rattle.admin_queue.specs.Controller.{AdminController}
use Rattle.admin_queue.specs.Outcome.{Outcome as AdminOutcome}
use Rattle.data_transfer.specs.Parts.{count_of, has_command}
use Rattle.fabrics_connect.specs.declared.row.Row.{Row}
use Rattle.io_queue.specs.declared.beginning.Begun.{Begun}
use Rattle.io_queue.specs.declared.beginning.Begun.TheVariants.{Perform, Receive}
use Rattle.io_queue.specs.declared.operation.Operation.{Operation}
use Rattle.io_queue.specs.Beginning.{begin as io_begin}
use Rattle.io_queue.specs.Finishing.{finish as io_finish}
use Rattle.std.specs.List.{list_any}
use Rattle.admin_queue.specs.Notices.{NoticeState}
use Rattle.nvt_fields.specs.declared.status.Status.{Status}
use Rattle.nvt_fields.specs.Status.{command_id_conflict, command_sequence_error, invalid_field}
use Rattle.pdu_codec.specs.declared.command.Property.{Property}
use Rattle.pdu_codec.specs.Sqe.{cid_of, opcode_of, fuse_of, fctype_of, property_of}
use Rattle.property_regs.specs.declared.regs.InvalidField.{InvalidField}
use Rattle.property_regs.specs.declared.regs.Regs.{Regs}
use Rattle.property_regs.specs.Regs.{change_by, configuration_set, property_get}
use Rattle.target_decision.specs.declared.capsule.Served.TheVariants.{Answered, Asked, Waits}
use Rattle.target_decision.specs.declared.capsule.Refusal.{Refusal}
use Rattle.target_decision.specs.declared.capsule.Success.{Success}
use Rattle.target_decision.specs.declared.decision.ReplyAnswer.TheVariants as answer
use Rattle.target_decision.specs.declared.consequence.Consequence.{Consequence}
use Rattle.target_decision.specs.declared.consequence.Consequence.TheVariants as consequence
use Rattle.target_decision.specs.declared.consequence.Update.TheVariants as update
use Rattle.target_decision.specs.declared.decision.Decision.{Decision}
use Rattle.target_decision.specs.declared.decision.Decision.TheVariants as decision
use Rattle.target_decision.specs.declared.decision.Reply.{Reply}
use Rattle.target_decision.specs.declared.session.ConnectionState.{ConnectionState}
use Rattle.target_decision.specs.declared.session.Role.{Role}
use Rattle.target_decision.specs.declared.session.Role.TheVariants.{Admin, Io}
use Rattle.target_decision.specs.declared.session.Session.{Session}
use Rattle.target_decision.specs.declared.session.Session.TheVariants.{Opened, Initialized, Connected, Ended}
use Rattle.target_decision.specs.Connect.{connect_on}
use Rattle.target_decision.specs.Controller.{registers_at}
use Rattle.target_decision.specs.Outcome.{Outcome, asked, done, given, performed, refuse, refused, waits}
use Rattle.target_decision.specs.Queue.{next_head, next_head_of}
use Rattle.target_decision.specs.Transfer.{Tags}
use Rattle.target_decision.specs.World.{World, admin_controller}

-- the opcode of all Fabrics commands, and their types
abbrev pub fabrics_opcode : ℕ
fabrics_opcode = 0x7F

abbrev pub property_set_type : ℕ
property_set_type = 0x00

abbrev pub connect_type : ℕ
connect_type = 0x01

abbrev pub property_get_type : ℕ
property_get_type = 0x04

-- whether the controller of this row is ready
abbrev pub is_ready_at : Option Row → Bool
is_ready_at None = false
is_ready_at (Some row) = row.ready

-- ---- on an admin queue

-- what a Property Get comes to that gives this value, or is refused
abbrev pub given_by : Result ℕ InvalidField → Outcome
given_by (Ok value) = done value consequence.Nothing
given_by (Err fault) = refused invalid_field

-- .. and a Property Set that sets Controller Configuration to this value, or is refused
abbrev pub set_by : Result ℕ InvalidField → Regs → ℕ → Outcome
set_by (Ok cc) registers cntlid =
    done 0 (consequence.Update cntlid (update.Configuration (record { cc = cc; change = change_by registers cc })))
set_by (Err fault) registers cntlid = refused invalid_field

-- a Property Get changes nothing; a property that is not there, or has another size, is Invalid Field in Command
abbrev pub property_get_of : Regs → Property → Outcome
property_get_of registers p = given_by (property_get registers p.ofst p.attrib)

-- Controller Configuration alone can be set; what that does to the controller follows from the reply
abbrev pub property_set_of : Regs → ℕ → Property → Outcome
property_set_of registers cntlid p = set_by (configuration_set p.ofst p.attrib p.value) registers cntlid

-- Fabrics commands on the admin queue of a controller with these properties, by their type: a second
-- Connect is out of sequence
abbrev pub fabrics_command : Regs → ℕ → List ℕ → Outcome
fabrics_command registers cntlid entry =
    if fctype_of entry == property_set_type then property_set_of registers cntlid (property_of entry) else
    if fctype_of entry == connect_type then refused command_sequence_error else
    if fctype_of entry == property_get_type then property_get_of registers (property_of entry) else
    refused invalid_field

abbrev pub admin_answered : ℕ → AdminOutcome → Outcome
admin_answered cntlid (Ok accepted.Waits) = waits
admin_answered cntlid (Ok (accepted.Answered s)) = given s.result s.payload (consequence.Update cntlid (update.Command s.effect))
admin_answered cntlid (Err status) = refused status

-- an admin command of a controller that is ready, or not
abbrev pub admin_by : Bool → Option AdminController → World → ℕ → List ℕ → Outcome
admin_by ready None w cntlid entry = refused command_sequence_error
admin_by ready (Some c) w cntlid entry =
    refuse (not ready) command_sequence_error (admin_answered cntlid (admin w.pages w.config c entry))

-- .. of the controller of this identifier, with what its host is to be told
abbrev pub admin_at : World → NoticeState → ℕ → List ℕ → Outcome
admin_at w notices cntlid entry = admin_by (is_ready_at (w.row cntlid)) (admin_controller w notices cntlid) w cntlid entry

-- a Fabrics command is answered whether the controller is ready or not: its host enables it by a Property Set
abbrev pub on_admin_queue : World → NoticeState → ℕ → List ℕ → Outcome
on_admin_queue w notices cntlid entry =
    if opcode_of entry == fabrics_opcode then fabrics_command (registers_at (w.controller cntlid)) cntlid entry else
    admin_at w notices cntlid entry

-- ---- on an I/O queue

-- an operation that is to be performed, so many bytes of data that are to come, or a status
abbrev pub io_begun : Result Begun Status → Outcome
io_begun (Ok (Perform op)) = performed op
io_begun (Ok (Receive len)) = asked len
io_begun (Err status) = refused status

-- a command of a controller of this subsystem that this host made through this port; a discovery controller has no I/O
-- queue
abbrev pub io_of : Option (List ℕ) → List ℕ → ℕ → World → List ℕ → ℕ → Outcome
io_of None host port w entry brings = refused command_sequence_error
io_of (Some subsystem) host port w entry brings = io_begun (io_begin w.config host port subsystem entry brings)

-- .. of one that is ready, or not
abbrev pub io_by : Option Row → World → List ℕ → ℕ → Outcome
io_by None w entry brings = refused command_sequence_error
io_by (Some row) w entry brings = refuse (not row.ready) command_sequence_error (io_of row.subsystem row.host row.port w entry brings)

-- .. of the controller of this identifier
abbrev pub io_at : World → ℕ → List ℕ → ℕ → Outcome
io_at w cntlid entry brings = io_by (w.row cntlid) w entry brings

-- a second Connect is out of sequence, and no other Fabrics command is for an I/O queue
abbrev pub on_io_queue : World → ℕ → List ℕ → List ℕ → Outcome
on_io_queue w cntlid entry bytes =
    if opcode_of entry == fabrics_opcode
    then (if fctype_of entry == connect_type then refused command_sequence_error else refused invalid_field)
    else io_at w cntlid entry (length bytes)

-- ---- once its data have come

-- an operation that is to be performed, or a status
abbrev pub io_finished : Result Operation Status → Outcome
io_finished (Ok op) = performed op
io_finished (Err status) = refused status

abbrev pub finished_of : Option (List ℕ) → List ℕ → ℕ → World → List ℕ → ℕ → Outcome
finished_of None host port w entry came = refused command_sequence_error
finished_of (Some subsystem) host port w entry came = io_finished (io_finish w.config host port subsystem entry came)

abbrev pub finished_by : Option Row → World → List ℕ → ℕ → Outcome
finished_by None w entry came = refused command_sequence_error
finished_by (Some row) w entry came = finished_of row.subsystem row.host row.port w entry came

-- the command of this entry, for which so many bytes came, on a queue: whether its controller is ready is not asked again
abbrev pub finished : World → Session → List ℕ → ℕ → Outcome
finished w (Connected (Io cntlid qid) queue) entry came = finished_by (w.row cntlid) w entry came
finished w _ entry came = refused command_sequence_error

-- ---- on any connection

-- a command on a connection that has no queue yet
abbrev pub first_command : World → ℕ → List ℕ → List ℕ → Outcome
first_command w port entry bytes =
    if (opcode_of entry == fabrics_opcode) && (fctype_of entry == connect_type)
    then connect_on w port entry bytes else refused command_sequence_error

abbrev pub queue_command : World → NoticeState → Role → List ℕ → List ℕ → Outcome
queue_command w notices (Admin cntlid) entry bytes = on_admin_queue w notices cntlid entry
queue_command w notices (Io cntlid qid) entry bytes = on_io_queue w cntlid entry bytes

abbrev pub command_in : World → ConnectionState → Session → List ℕ → List ℕ → Outcome
command_in w v (Connected role queue) entry bytes = queue_command w v.notices role entry bytes
command_in w v Opened entry bytes = first_command w v.port entry bytes
command_in w v Initialized entry bytes = first_command w v.port entry bytes
command_in w v Ended entry bytes = first_command w v.port entry bytes

-- .. that is not fused with another
abbrev pub command_on : World → ConnectionState → List ℕ → List ℕ → Outcome
command_on w v entry bytes = refuse (not (fuse_of entry == 0)) invalid_field (command_in w v v.session entry bytes)

-- the commands that are outstanding on a connection: those with a transfer, and the event requests that wait
abbrev pub outstanding : ConnectionState → Tags → ℕ
outstanding v tags = count_of tags + length v.notices.events.waiting

-- .. whether one of them has this identifier
abbrev pub is_outstanding : ConnectionState → Tags → ℕ → Bool
is_outstanding v tags cid = has_command tags cid || list_any (nat_eq cid) v.notices.events.waiting

-- what a command comes to, by its entry and the data in its capsule: its identifier may be that of none that is
-- outstanding
abbrev pub command : World → ConnectionState → Tags → List ℕ → List ℕ → Outcome
command w v tags entry bytes = refuse (is_outstanding v tags (cid_of entry)) command_id_conflict (command_on w v entry bytes)

abbrev pub full_by : Session → ℕ → Bool
full_by (Connected role queue) count = nat_le (min queue.sqsize 63) count
full_by _ count = false

-- whether as many commands are outstanding on a queue as it has entries beside one (SQSIZE, 0's based), of which there are
-- at most 63
abbrev pub is_full : ConnectionState → Tags → Bool
is_full v tags = full_by v.session (outstanding v tags)

-- by `heads_count_responses` it counts the responses on the queue since the Connect, round the queue's size
abbrev pub head_counted : Session → ℕ
head_counted Opened = 0
head_counted Initialized = 0
head_counted (Connected role queue) = next_head_of queue
head_counted Ended = 0

-- the submission queue head that a response carries: a connection without a queue has none, and 0 is sent
abbrev pub head_after : Session → Consequence → ℕ
head_after session (consequence.Begin b) = next_head b.sqsize 0
head_after session (consequence.Join j) = next_head j.sqsize 0
head_after session _ = head_counted session

-- a reply that is no refusal, and ends this transfer
abbrev pub answered_with : Session → ℕ → Option ℕ → Success → Reply
answered_with session cid transfer s = record {
  cid = cid;
  sqhd = head_after session s.consequence;
  transfer = transfer;
  answer = s.answer;
  consequence = s.consequence;
}

-- .. and a refusal
abbrev pub refused_with : Session → ℕ → Option ℕ → Refusal → Reply
refused_with session cid transfer r = record {
  cid = cid;
  sqhd = head_after session consequence.Nothing;
  transfer = transfer;
  answer = answer.Given (record { status = r.status; result = r.result; «data» = None });
  consequence = consequence.Nothing;
}

-- what is owed to a command of this identifier that comes to this, and ends this transfer
abbrev pub owed : Session → ℕ → Option ℕ → Outcome → Decision
owed session cid transfer (Ok (Answered s)) = decision.Reply (answered_with session cid transfer s)
owed session cid transfer (Ok (Asked len)) = decision.Request (record { cid = cid; len = len })
owed session cid transfer (Ok Waits) = decision.Wait cid
owed session cid transfer (Err r) = decision.Reply (refused_with session cid transfer r)
