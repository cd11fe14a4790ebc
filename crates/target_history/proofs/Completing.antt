-- Completed Reads and Compares find what was written, where their disks do.
use Rattle.std.proofs.Common.{◌≡◌, ℕ, Bool, true, false, List, Some, refl, ap}
use Rattle.std.specs.Prelude.{bytes_eq, if◌then◌else◌, nat_eq}
use Rattle.std.proofs.lemmas.Bool.{true≢false}
use Rattle.block_store.specs.Range.{bytes_of, units_at}
use Rattle.config_lists.proofs.Names.{same_name}
use Rattle.nvt_fields.specs.declared.status.Status.{Status}
use Rattle.nvt_fields.specs.Status.{compare_failure, success, unrecovered_read_error}
use Rattle.io_queue.specs.declared.operation.Action.TheVariants as action
use Rattle.io_queue.specs.declared.operation.Operation.{Operation}
use Rattle.io_queue.specs.Act.{DiskOutcome, found, good, is_found, read_fault, write_fault_after}
use Rattle.io_queue.specs.Execution.{returned, status_by}
use Rattle.io_queue.specs.Operation.{brought, disk_of}
use Rattle.target_history.specs.Event.{disk_outcome_in}
use Rattle.target_history.specs.History.{blocks_of, meets_after}
use Rattle.target_history.specs.Occurrence.{bytes_asked}
use Rattle.target_history.specs.Completed.{CompletedReadsFindWhatWasWritten}

abbrev code_of : Status → ℕ
code_of s = s.sc

failed_read : {X : Type 0} → unrecovered_read_error ≡ success → X
failed_read same = let codes : 129 ≡ 0 = ap code_of same in absurd (true≢false (ap (nat_eq 129) codes))

read_by : (op : Operation) (bytes : List ℕ) (contents : List (List ℕ)) (m : DiskOutcome) → op.action ≡ action.Read → is_found m ≡ false
    → status_by op bytes contents m ≡ success → returned op contents m ≡ Some (bytes_of (units_at contents op.extent.first op.extent.units))
read_by op bytes contents good reads none succeeds = rw reads refl
read_by op bytes contents (found other) reads none succeeds = absurd (true≢false none)
read_by op bytes contents read_fault reads none succeeds = failed_read (rw reads at succeeds)
read_by op bytes contents (write_fault_after new) reads none succeeds = failed_read (rw reads at succeeds)

found_same : (at : ℕ) (op : Operation) (bytes held : List ℕ) (test : Bool) → bytes_eq (brought op.extent at bytes) held ≡ test
    → (if test then success else compare_failure) ≡ success → brought op.extent at bytes ≡ held
found_same at op bytes held true same succeeds = same_name (brought op.extent at bytes) held same
found_same at op bytes held false other succeeds =
    let codes : 133 ≡ 0 = ap code_of succeeds in absurd (true≢false (ap (nat_eq 133) codes))

compared_by : (op : Operation) (bytes : List ℕ) (contents : List (List ℕ)) (m : DiskOutcome) (at : ℕ) → op.action ≡ action.Compare at
    → is_found m ≡ false → status_by op bytes contents m ≡ success
    → brought op.extent at bytes ≡ bytes_of (units_at contents op.extent.first op.extent.units)
compared_by op bytes contents good at compares none succeeds =
    let held = bytes_of (units_at contents op.extent.first op.extent.units) in
    found_same at op bytes held (bytes_eq (brought op.extent at bytes) held) refl (rw compares at succeeds)
compared_by op bytes contents (found other) at compares none succeeds = absurd (true≢false none)
compared_by op bytes contents read_fault at compares none succeeds = failed_read (rw compares at succeeds)
compared_by op bytes contents (write_fault_after new) at compares none succeeds = failed_read (rw compares at succeeds)

pub completed_reads_find_what_was_written : CompletedReadsFindWhatWasWritten
completed_reads_find_what_was_written = record {
  reads = λ disks before event op asked reads none succeeds.
      read_by op (bytes_asked (meets_after disks before event)) (blocks_of disks before (disk_of op)) (disk_outcome_in event) reads none succeeds;
  compares = λ disks before event op at asked compares none succeeds.
      compared_by op (bytes_asked (meets_after disks before event)) (blocks_of disks before (disk_of op)) (disk_outcome_in event) at compares none succeeds;
}
