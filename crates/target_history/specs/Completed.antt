-- What completed Reads and Compares find.
use Rattle.std.specs.Prelude.{◌≡◌, ℕ, false, List, Option, Some}
use Rattle.block_store.specs.Range.{bytes_of, units_at}
use Rattle.nvt_fields.specs.declared.status.Status.{Status}
use Rattle.nvt_fields.specs.Status.{success}
use Rattle.io_queue.specs.declared.operation.Action.TheVariants as action
use Rattle.io_queue.specs.declared.operation.Operation.{Operation}
use Rattle.io_queue.specs.Act.{is_found}
use Rattle.io_queue.specs.Execution.{returned, status_by}
use Rattle.io_queue.specs.Operation.{brought, disk_of}
use Rattle.target_history.specs.Event.{Event, disk_outcome_in}
use Rattle.target_history.specs.History.{Opening, blocks_of, meets_after}
use Rattle.target_history.specs.Occurrence.{Occurrence, bytes_asked, operation_asked}

-- what the extent of an operation holds after all that happened: what its disk opened with, overwritten by the completed
-- writes in event order
abbrev pub held_by : Opening → List Occurrence → Operation → List ℕ
held_by disks before op = bytes_of (units_at (blocks_of disks before (disk_of op)) op.extent.first op.extent.units)

-- the status of an operation at an event, behind all that happened, and what it returns
abbrev pub status_at : Opening → List Occurrence → Event → Operation → Status
status_at disks before event op =
    status_by op (bytes_asked (meets_after disks before event)) (blocks_of disks before (disk_of op)) (disk_outcome_in event)

abbrev pub returned_at : Opening → List Occurrence → Event → Operation → Option (List ℕ)
returned_at disks before event op = returned op (blocks_of disks before (disk_of op)) (disk_outcome_in event)

-- Where a disk finds what was written: each Read that is answered with success returns what its extent holds, and each
-- Compare is answered with success exactly where that is its data, unless its disk failed.
pub record CompletedReadsFindWhatWasWritten : Type 0 where
  pub reads : (disks : Opening) (before : List Occurrence) (event : Event) (op : Operation)
      → operation_asked (meets_after disks before event) ≡ Some op → op.action ≡ action.Read → is_found (disk_outcome_in event) ≡ false
      → status_at disks before event op ≡ success → returned_at disks before event op ≡ Some (held_by disks before op)
  pub compares : (disks : Opening) (before : List Occurrence) (event : Event) (op : Operation) (at : ℕ)
      → operation_asked (meets_after disks before event) ≡ Some op → op.action ≡ action.Compare at → is_found (disk_outcome_in event) ≡ false
      → status_at disks before event op ≡ success → brought op.extent at (bytes_asked (meets_after disks before event)) ≡ held_by disks before op
