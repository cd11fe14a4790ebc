-- What a decision does, as it is performed.
use Rattle.std.specs.Prelude.{◌≡◌, ℕ, ◌+◌, List, ◌++◌, length, Option, Some, None}
use Rattle.block_store.specs.Stored.{Stored}
use Rattle.io_queue.specs.declared.operation.Operation.{Operation}
use Rattle.io_queue.specs.Act.{DiskOutcome}
use Rattle.io_queue.specs.Execution.{DisksDid, contents_at, sizes as sizes_of, write_on, written}
use Rattle.io_queue.specs.Operation.{HasExtent, room_for as room_for_operation}
use Rattle.io_queue.specs.Reply.{data_room}
use Rattle.pdu_cut.specs.Front.{Front}
use Rattle.target_decision.specs.declared.decision.Decision.{Decision}
use Rattle.target_decision.specs.Data.{data_len}
use Rattle.target_decision.specs.Decision.{Brought, act_by, head_of, operation_of, wire_of}
use Rattle.target_decision.specs.World.{World}
use Rattle.target_decision.specs.declared.session.ConnectionState.{ConnectionState}

-- On this front, to a host with this alignment of data, with what is brought for it and the data that it returns of its
-- controller: what it sends stands behind the output, what it writes is on its disk, as far as the disks did it, and they did
-- what its operation may meet, or all is good where it has none.
pub record Does (alignment : ℕ) (d : Decision) (front : Front) (b : Brought) (payload : Option (List ℕ)) (old new : List Stored) (output appended : List ℕ) : Type 0 where
  pub disk_outcome : DiskOutcome
  pub did : DisksDid (operation_of d) b.bytes disk_outcome old new
  pub sends : appended ≡ output ++ wire_of alignment d front b payload (contents_at old) disk_outcome
  pub contents : (disk : ℕ) → contents_at new disk ≡ written (write_on disk (act_by d b disk_outcome)) (contents_at old disk)
  pub sizes : sizes_of new ≡ sizes_of old

-- the extent of an operation, where there is one, is on its disk, of those of these sizes
abbrev pub HasExtentIn : List ℕ → Option Operation → Type 0
HasExtentIn sizes None = Unit {0}
HasExtentIn sizes (Some op) = HasExtent sizes op.extent

-- how many bytes a decision may send of what it reads
abbrev pub room_in : Option Operation → ℕ
room_in None = 0
room_in (Some op) = room_for_operation op

-- only an operation reads a disk: the data of pages and lists are counted by `data_len`
abbrev pub room_of : Decision → ℕ
room_of d = room_in (operation_of d)

-- .. and in all, on this connection: an ICResp or a response, what a termination returns, and data in pieces
abbrev pub room_for : World → ConnectionState → Decision → Front → ℕ
room_for w v d front = 152 + length (head_of front) + data_room (data_len w v d) + room_of d
