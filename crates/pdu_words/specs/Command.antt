-- Which command a submission queue entry is (Base 2.0, sections 5 and 6; NVM Command Set 1.0, section 3.2).
use Rattle.std.specs.Prelude.{ℕ, ◌%◌, ◌==◌, List, slice_index, if◌then◌else◌}
use Rattle.pdu_codec.specs.Sqe.{opcode_of, fctype_of, connect_of, property_of, get_log_page_of, feature_of}
use Rattle.pdu_words.specs.declared.command.QueueKind.{QueueKind}
use Rattle.pdu_words.specs.declared.command.QueueKind.TheVariants as queue
use Rattle.pdu_words.specs.declared.command.Command.{Command}
use Rattle.pdu_words.specs.declared.command.Command.TheVariants as command

-- with its value, by which `resets` knows a reset of the controller
abbrev pub set_property_command : List ℕ → Command
set_property_command entry = command.PropertySet (property_of entry).ofst (property_of entry).value

-- with its value, of which `kinds_words` tells the kinds of events that it enables
abbrev pub set_features_command : List ℕ → Command
set_features_command entry = command.SetFeatures (feature_of entry).fid (feature_of entry).value

-- by the Fabrics command type
abbrev pub fabrics_type : ℕ → List ℕ → Command
fabrics_type fctype entry =
    if fctype == 0x00 then set_property_command entry else
    if fctype == 0x01 then command.Connect (connect_of entry).qid else
    if fctype == 0x04 then command.PropertyGet (property_of entry).ofst else
    command.Fabrics fctype

-- its type alone says which it is: Fabrics commands are the same on each queue
abbrev pub fabrics_command : List ℕ → Command
fabrics_command entry = fabrics_type (fctype_of entry) entry

-- with its offset: the bytes of a page can be told in words only by their place in it (`log_words`)
abbrev pub log_page_command : List ℕ → Command
log_page_command entry = command.GetLogPage (get_log_page_of entry).lid (get_log_page_of entry).offset

-- by the opcode on an admin queue; CNS and the feature identifier are the low byte of CDW10, and Select of Get
-- Features is bits 10:8 (Base 2.0, section 5.15)
abbrev pub admin_opcode : ℕ → List ℕ → Command
admin_opcode opcode entry =
    if opcode == 0x02 then log_page_command entry else
    if opcode == 0x06 then command.Identify (slice_index entry 40) else
    if opcode == 0x08 then command.Abort else
    if opcode == 0x09 then set_features_command entry else
    if opcode == 0x0A then command.GetFeatures (slice_index entry 40) (slice_index entry 41 % 8) else
    if opcode == 0x0C then command.AsynchronousEventRequest else
    if opcode == 0x18 then command.KeepAlive else
    command.Admin opcode

-- an opcode is another command on an I/O queue: 02h is Get Log Page here, and Read there
abbrev pub admin_command : List ℕ → Command
admin_command entry = admin_opcode (opcode_of entry) entry

-- by the opcode on an I/O queue
abbrev pub io_opcode : ℕ → Command
io_opcode opcode =
    if opcode == 0x00 then command.Flush else
    if opcode == 0x01 then command.Write else
    if opcode == 0x02 then command.Read else
    if opcode == 0x05 then command.Compare else
    if opcode == 0x08 then command.WriteZeroes else
    command.Io opcode

-- the words tell nothing but the opcode: neither the namespace nor the blocks are looked at
abbrev pub io_command : List ℕ → Command
io_command entry = io_opcode (opcode_of entry)

abbrev pub queue_command : QueueKind → List ℕ → Command
queue_command queue.Admin entry = admin_command entry
queue_command queue.Io entry = io_command entry

-- a Fabrics command is one on each queue
abbrev pub command_of : QueueKind → List ℕ → Command
command_of q entry = if opcode_of entry == 0x7F then fabrics_command entry else queue_command q entry
