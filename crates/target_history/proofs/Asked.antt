-- A Write and a Compare have one block at least, so that an R2T asks for a byte at least.
use Rattle.std.proofs.Common.{◌≡◌, ◌<◌, ℕ, ◌+◌, ◌*◌, ◌==◌, Bool, true, false, not, ◌||◌, List, Option, Some, None, Result, Ok, Err, IfOk, nat_lt, refl, arith}
use Rattle.std.proofs.lemmas.Bool.{eqb-true}
use Rattle.config_lists.specs.declared.namespace.BlockSize.{BlockSize}
use Rattle.config_lists.specs.declared.namespace.BlockSize.TheVariants.{Bytes512, Bytes4096}
use Rattle.config_lists.specs.declared.namespace.Namespace.{Namespace}
use Rattle.config_lists.specs.Namespace.{bytes_of}
use Rattle.nvt_config.specs.Configuration.{Configuration}
use Rattle.io_queue.specs.declared.beginning.Begun.{Begun}
use Rattle.io_queue.specs.declared.beginning.Begun.TheVariants.{Perform, Receive}
use Rattle.io_queue.specs.declared.opcode.IoOpcode.{IoOpcode}
use Rattle.io_queue.specs.declared.opcode.IoOpcode.TheVariants as opcode
use Rattle.io_queue.specs.declared.operation.Extent.{Extent}
use Rattle.io_queue.specs.declared.operation.Operation.{Operation}
use Rattle.io_queue.specs.Beginning.{begin, compare_begun, is_capsule_offset, is_transport, locate, on_namespace, on_opcode, performed, read, write_begun}
use Rattle.io_queue.specs.Blocks.{data_len, in_range, limited}
use Rattle.io_queue.specs.Opcode.{opcode_of_code}
use Rattle.io_queue.specs.Reach.{reached, then_do}
use Rattle.nvt_fields.specs.declared.status.Status.{Status}
use Rattle.pdu_codec.specs.declared.command.BlockCommand.{BlockCommand}
use Rattle.pdu_codec.specs.declared.sgl.Sgl.{Sgl}
use Rattle.pdu_codec.specs.Sqe.{block_command_of, opcode_of, sgl1_of}

abbrev AsksForData : Begun → Type 0
AsksForData (Perform op) = Unit {0}
AsksForData (Receive len) = 0 < len

some_bytes : (size : BlockSize) (blocks : ℕ) → 0 < (blocks + 1) * bytes_of size
some_bytes Bytes512 blocks = omega arith
some_bytes Bytes4096 blocks = omega arith

-- ---- a Write, a Compare

module _ (n : Namespace) (c : BlockCommand) (sgl : Sgl) (capsule_len : ℕ) (some : 0 < data_len n c) where
  len_some : (sgl.len == data_len n c) ≡ true → 0 < sgl.len
  len_some same =
      let is : sgl.len ≡ data_len n c = eqb-true sgl.len (data_len n c) same in
      rw is some

  write_by : (fua : Bool) (r : Result Extent Status) (other same transport outside : Bool) → limited n c ≡ r
      → not (is_capsule_offset sgl.sgl_type || is_transport sgl.sgl_type) ≡ other → (sgl.len == data_len n c) ≡ same
      → is_transport sgl.sgl_type ≡ transport → nat_lt capsule_len (sgl.address + sgl.len) ≡ outside
      → IfOk (then_do (locate n c sgl capsule_len) (λ p. Ok (write_begun fua p))) AsksForData
  write_by fua (Err status) other same transport outside is odd long moves past = rw is tt
  write_by fua (Ok e) true same transport outside is odd long moves past = rw (is, odd) tt
  write_by fua (Ok e) false false transport outside is odd long moves past = rw (is, odd, long) tt
  write_by fua (Ok e) false true true outside is odd long moves past = rw (is, odd, long, moves) (len_some long)
  write_by fua (Ok e) false true false true is odd long moves past = rw (is, odd, long, moves, past) tt
  write_by fua (Ok e) false true false false is odd long moves past = rw (is, odd, long, moves, past) tt

  write_asks : (fua : Bool) → IfOk (then_do (locate n c sgl capsule_len) (λ p. Ok (write_begun fua p))) AsksForData
  write_asks fua = write_by fua _ _ _ _ _ refl refl refl refl refl

  compare_by : (r : Result Extent Status) (other same transport outside : Bool) → limited n c ≡ r
      → not (is_capsule_offset sgl.sgl_type || is_transport sgl.sgl_type) ≡ other → (sgl.len == data_len n c) ≡ same
      → is_transport sgl.sgl_type ≡ transport → nat_lt capsule_len (sgl.address + sgl.len) ≡ outside
      → IfOk (then_do (locate n c sgl capsule_len) (λ p. Ok (compare_begun p))) AsksForData
  compare_by (Err status) other same transport outside is odd long moves past = rw is tt
  compare_by (Ok e) true same transport outside is odd long moves past = rw (is, odd) tt
  compare_by (Ok e) false false transport outside is odd long moves past = rw (is, odd, long) tt
  compare_by (Ok e) false true true outside is odd long moves past = rw (is, odd, long, moves) (len_some long)
  compare_by (Ok e) false true false true is odd long moves past = rw (is, odd, long, moves, past) tt
  compare_by (Ok e) false true false false is odd long moves past = rw (is, odd, long, moves, past) tt

  compare_asks : IfOk (then_do (locate n c sgl capsule_len) (λ p. Ok (compare_begun p))) AsksForData
  compare_asks = compare_by _ _ _ _ _ refl refl refl refl refl

-- ---- any command

read_asks : (r : Result Operation Status) → IfOk (performed r) AsksForData
read_asks (Ok op) = tt
read_asks (Err status) = tt

zeroes_asks : (r : Result Extent Status) (operation : Extent → Operation) → IfOk (then_do r (λ e. Ok (Perform (operation e)))) AsksForData
zeroes_asks (Ok e) operation = tt
zeroes_asks (Err status) operation = tt

command_asks : (n : Namespace) (code : IoOpcode) (entry : List ℕ) (capsule_len : ℕ) → IfOk (on_namespace n code entry capsule_len) AsksForData
command_asks n opcode.Flush entry capsule_len = tt
command_asks n opcode.Read entry capsule_len = read_asks (read n (block_command_of entry) (sgl1_of entry))
command_asks n opcode.Write entry capsule_len =
    write_asks n (block_command_of entry) (sgl1_of entry) capsule_len (some_bytes n.block_size _) (block_command_of entry).fua
command_asks n opcode.Compare entry capsule_len =
    compare_asks n (block_command_of entry) (sgl1_of entry) capsule_len (some_bytes n.block_size _)
command_asks n opcode.WriteZeroes entry capsule_len = zeroes_asks (in_range n (block_command_of entry)) _

begin_asks : (config : Configuration) (host : List ℕ) (port : ℕ) (subsystem entry : List ℕ) (capsule_len : ℕ)
    → IfOk (begin config host port subsystem entry capsule_len) AsksForData
begin_asks config host port subsystem entry capsule_len = by (opcode_of_code (opcode_of entry)) where
  on : (code : IoOpcode) (r : Result Namespace Status) → IfOk (then_do r (λ n. on_namespace n code entry capsule_len)) AsksForData
  on code (Ok n) = command_asks n code entry capsule_len
  on code (Err status) = tt

  by : (code : Option IoOpcode) → IfOk (on_opcode code config host port subsystem entry capsule_len) AsksForData
  by None = tt
  by (Some code) = on code (reached config host port subsystem entry)

pub some_asked : (config : Configuration) (host : List ℕ) (port : ℕ) (subsystem entry : List ℕ) (capsule_len len : ℕ)
    → begin config host port subsystem entry capsule_len ≡ Ok (Receive len) → 0 < len
some_asked config host port subsystem entry capsule_len len is = rw is at (begin_asks config host port subsystem entry capsule_len)
