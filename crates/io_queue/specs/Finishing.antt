-- The second check of a command, when all its data has come: with the configuration of then (NVM Command Set 1.0, section
-- 3).
use Rattle.std.specs.Prelude.{ℕ, ◌==◌, not, List, Option, Some, None, Result, Ok, Err}
use Rattle.config_lists.specs.declared.namespace.Namespace.{Namespace}
use Rattle.nvt_config.specs.Configuration.{Configuration}
use Rattle.nvt_fields.specs.declared.status.Status.{Status}
use Rattle.nvt_fields.specs.Status.{data_sgl_length_invalid, invalid_opcode}
use Rattle.pdu_codec.specs.declared.command.BlockCommand.{BlockCommand}
use Rattle.pdu_codec.specs.Sqe.{block_command_of, opcode_of}
use Rattle.io_queue.specs.declared.opcode.IoOpcode.{IoOpcode}
use Rattle.io_queue.specs.declared.opcode.IoOpcode.TheVariants as opcode
use Rattle.io_queue.specs.declared.operation.Action.TheVariants as action
use Rattle.io_queue.specs.declared.operation.Extent.{Extent}
use Rattle.io_queue.specs.declared.operation.Operation.{Operation}
use Rattle.io_queue.specs.Blocks.{data_len, in_range}
use Rattle.io_queue.specs.Opcode.{opcode_of_code}
use Rattle.io_queue.specs.Operation.{operation_on}
use Rattle.io_queue.specs.Reach.{reached, refuse, then_do}

-- the extent of a command whose blocks the namespace has, and have as many bytes as came
abbrev pub covered : Namespace → BlockCommand → ℕ → Result Extent Status
covered n c came = then_do (in_range n c) (λ extent. refuse (not (came == data_len n c)) data_sgl_length_invalid (Ok extent))

-- a Write or a Compare of the data that came; no other command waits for data
abbrev pub on_namespace_again : Namespace → Option IoOpcode → List ℕ → ℕ → Result Operation Status
on_namespace_again n (Some opcode.Write) entry came =
    then_do (covered n (block_command_of entry) came) (λ extent. Ok (operation_on extent (action.Write 0 (block_command_of entry).fua)))
on_namespace_again n (Some opcode.Compare) entry came =
    then_do (covered n (block_command_of entry) came) (λ extent. Ok (operation_on extent (action.Compare 0)))
on_namespace_again n (Some opcode.Flush) entry came = Err invalid_opcode
on_namespace_again n (Some opcode.Read) entry came = Err invalid_opcode
on_namespace_again n (Some opcode.WriteZeroes) entry came = Err invalid_opcode
on_namespace_again n None entry came = Err invalid_opcode

-- What the command of this entry does to its disk once so many bytes came for it, or why it is refused: its namespace and
-- whether this host sees it, its ANA state, its range and its length are looked at again.
abbrev pub finish : Configuration → List ℕ → ℕ → List ℕ → List ℕ → ℕ → Result Operation Status
finish config host port subsystem entry came =
    then_do (reached config host port subsystem entry) (λ n. on_namespace_again n (opcode_of_code (opcode_of entry)) entry came)
