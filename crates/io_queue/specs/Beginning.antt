-- The checks of an I/O command at its capsule, in their order (NVM Command Set 1.0, section 3).
use Rattle.std.specs.Prelude.{◌≤◌, ℕ, ◌+◌, ◌==◌, not, ◌||◌, nat_lt, Bool, true, false, List, Option, Some, None, Result, Ok, Err, if◌then◌else◌}
use Rattle.config_lists.specs.declared.namespace.Namespace.{Namespace}
use Rattle.nvt_config.specs.Configuration.{Configuration}
use Rattle.nvt_fields.specs.declared.status.Status.{Status}
use Rattle.nvt_fields.specs.Status.{data_sgl_length_invalid, invalid_opcode, sgl_offset_invalid, sgl_type_invalid}
use Rattle.pdu_codec.specs.declared.command.BlockCommand.{BlockCommand}
use Rattle.pdu_codec.specs.declared.sgl.Sgl.{Sgl}
use Rattle.pdu_codec.specs.declared.sgl.SglType.{SglType}
use Rattle.pdu_codec.specs.declared.sgl.SglType.TheVariants.{CapsuleOffset, Transport}
use Rattle.pdu_codec.specs.Sqe.{block_command_of, opcode_of, sgl1_of}
use Rattle.io_queue.specs.declared.beginning.Begun.{Begun}
use Rattle.io_queue.specs.declared.beginning.Begun.TheVariants.{Perform, Receive}
use Rattle.io_queue.specs.declared.beginning.Placed.{Placed}
use Rattle.io_queue.specs.declared.beginning.Placed.TheVariants.{InCapsule, ToCome}
use Rattle.io_queue.specs.declared.opcode.IoOpcode.{IoOpcode}
use Rattle.io_queue.specs.declared.opcode.IoOpcode.TheVariants as opcode
use Rattle.io_queue.specs.declared.operation.Action.TheVariants as action
use Rattle.io_queue.specs.declared.operation.Extent.{Extent}
use Rattle.io_queue.specs.declared.operation.Operation.{Operation}
use Rattle.io_queue.specs.Blocks.{data_len, in_range, limited}
use Rattle.io_queue.specs.Opcode.{opcode_of_code}
use Rattle.io_queue.specs.Operation.{IsWithin, no_units, operation_on}
use Rattle.io_queue.specs.Reach.{reached, refuse, then_do}

-- ---- where its data are

abbrev pub is_transport : SglType → Bool
is_transport Transport = true
is_transport _ = false

abbrev pub is_capsule_offset : SglType → Bool
is_capsule_offset CapsuleOffset = true
is_capsule_offset _ = false

-- a Read gives all its data to the host, in a transport data block
abbrev pub read : Namespace → BlockCommand → Sgl → Result Operation Status
read n c sgl = then_do (limited n c) (λ extent.
    refuse (not (is_transport sgl.sgl_type)) sgl_type_invalid (
    refuse (not (sgl.len == data_len n c)) data_sgl_length_invalid (
    Ok (operation_on extent action.Read))))

-- an address is an offset into the capsule's data, which have to hold it all; data that are to come have no place yet
abbrev pub locate_at : Extent → Sgl → ℕ → Result Placed Status
locate_at extent sgl capsule_len =
    if is_transport sgl.sgl_type then Ok (ToCome sgl.len) else
    refuse (nat_lt capsule_len (sgl.address + sgl.len)) sgl_offset_invalid (Ok (InCapsule extent sgl.address))

-- where all data of a Write or a Compare are: in its capsule, from an offset on, for this extent; or they are to come, in a
-- transport data block
abbrev pub locate : Namespace → BlockCommand → Sgl → ℕ → Result Placed Status
locate n c sgl capsule_len = then_do (limited n c) (λ extent.
    refuse (not (is_capsule_offset sgl.sgl_type || is_transport sgl.sgl_type)) sgl_type_invalid (
    refuse (not (sgl.len == data_len n c)) data_sgl_length_invalid (
    locate_at extent sgl capsule_len)))

-- nothing is written before all the data are there: `finish` then looks at the command again, FUA included
abbrev pub write_begun : Bool → Placed → Begun
write_begun fua (InCapsule extent at) = Perform (operation_on extent (action.Write at fua))
write_begun fua (ToCome len) = Receive len

-- nothing is compared before all the data are there: `finish` then looks at the command again
abbrev pub compare_begun : Placed → Begun
compare_begun (InCapsule extent at) = Perform (operation_on extent (action.Compare at))
compare_begun (ToCome len) = Receive len

-- ---- the command

abbrev pub performed : Result Operation Status → Result Begun Status
performed (Ok op) = Ok (Perform op)
performed (Err status) = Err status

-- on a namespace that is reached
abbrev pub on_namespace : Namespace → IoOpcode → List ℕ → ℕ → Result Begun Status
on_namespace n opcode.Flush entry capsule_len = Ok (Perform (operation_on (no_units n.disk) action.Flush))
on_namespace n opcode.Read entry capsule_len = performed (read n (block_command_of entry) (sgl1_of entry))
on_namespace n opcode.Write entry capsule_len =
    then_do (locate n (block_command_of entry) (sgl1_of entry) capsule_len) (λ p. Ok (write_begun (block_command_of entry).fua p))
on_namespace n opcode.Compare entry capsule_len =
    then_do (locate n (block_command_of entry) (sgl1_of entry) capsule_len) (λ p. Ok (compare_begun p))
on_namespace n opcode.WriteZeroes entry capsule_len =
    then_do (in_range n (block_command_of entry)) (λ extent. Ok (Perform (operation_on extent (action.WriteZeroes (block_command_of entry).fua))))

abbrev pub on_opcode : Option IoOpcode → Configuration → List ℕ → ℕ → List ℕ → List ℕ → ℕ → Result Begun Status
on_opcode None config host port subsystem entry capsule_len = Err invalid_opcode
on_opcode (Some code) config host port subsystem entry capsule_len =
    then_do (reached config host port subsystem entry) (λ n. on_namespace n code entry capsule_len)

-- What the command of this entry, in a capsule with so many bytes of data, begins: an operation on its disk, or that the
-- host is asked for so many bytes; or why it is refused. The controller is of this subsystem, and this host made it
-- through this port.
abbrev pub begin : Configuration → List ℕ → ℕ → List ℕ → List ℕ → ℕ → Result Begun Status
begin config host port subsystem entry capsule_len =
    on_opcode (opcode_of_code (opcode_of entry)) config host port subsystem entry capsule_len

-- ---- what holds of it

-- the disks of these sizes have what an operation asks of them, and the host is asked for no more than 131,072 bytes
abbrev pub IsBegunWithin : List ℕ → ℕ → Begun → Type 0
IsBegunWithin units brings (Perform op) = IsWithin units brings op
IsBegunWithin units brings (Receive len) = len ≤ 131072
