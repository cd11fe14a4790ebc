-- What an operation makes of its disk, and what it is answered.
use Rattle.std.specs.Prelude.{◌≡◌, ◌≢◌, ◌<◌, ◌≤◌, ℕ, ◌*◌, Bool, true, false, List, [], length, take, if◌then◌else◌}
use Rattle.block_store.specs.Range.{bytes_of, overwritten, units_at}
use Rattle.block_store.specs.Stored.{Stored}
use Rattle.nvt_fields.specs.declared.status.Status.{Status}
use Rattle.nvt_fields.specs.Status.{compare_failure, success, unrecovered_read_error, write_fault}
use Rattle.io_queue.specs.declared.operation.Extent.{Extent}

-- ---- what the disk did

-- It did all that was asked; or it did, and what was read are these bytes, which are other than those of the extent; or it
-- failed to read; or it failed to write or to make it last, with so many of the units that were to be written having their
-- new bytes, from the first on.
pub data DiskOutcome : Type 0 where
  good : DiskOutcome
  found : List ℕ → DiskOutcome
  read_fault : DiskOutcome
  write_fault_after : ℕ → DiskOutcome

abbrev pub is_good : DiskOutcome → Bool
is_good good = true
is_good (found bytes) = false
is_good read_fault = false
is_good (write_fault_after new) = false

abbrev pub is_found : DiskOutcome → Bool
is_found good = false
is_found (found bytes) = true
is_found read_fault = false
is_found (write_fault_after new) = false

abbrev pub is_fault : DiskOutcome → Bool
is_fault good = false
is_fault (found bytes) = false
is_fault read_fault = true
is_fault (write_fault_after new) = true

-- the disk's count of faults changed exactly where it failed; where it did not, that of strays is as it was exactly where
-- no other bytes were found, and else it rose
abbrev pub CountsBy : DiskOutcome → Stored → Stored → Type 0
CountsBy good old new = (new.faults ≡ old.faults) × (new.strays ≡ old.strays)
CountsBy (found bytes) old new = (new.faults ≡ old.faults) × (old.strays < new.strays)
CountsBy read_fault old new = new.faults ≢ old.faults
CountsBy (write_fault_after count) old new = new.faults ≢ old.faults

-- how many of so many units that were to be written are new
abbrev pub count_new : DiskOutcome → ℕ → ℕ
count_new good count = count
count_new (found bytes) count = count
count_new read_fault count = 0
count_new (write_fault_after new) count = new

-- ---- the operations

-- the units of an extent
abbrev pub extent_bytes : Extent → Stored → List ℕ
extent_bytes e disk = bytes_of (units_at disk.contents e.first e.units)

-- the bytes that were read of an extent, where its disk had these units: those that were found, where they are other than
-- the extent's, and else the extent's
abbrev pub read_in : DiskOutcome → Extent → List (List ℕ) → List ℕ
read_in good e contents = bytes_of (units_at contents e.first e.units)
read_in (found bytes) e contents = bytes
read_in read_fault e contents = bytes_of (units_at contents e.first e.units)
read_in (write_fault_after new) e contents = bytes_of (units_at contents e.first e.units)

-- bytes that were found are other than those that were wanted
abbrev pub IsOther : DiskOutcome → List ℕ → Type 0
IsOther good wanted = Unit {0}
IsOther (found bytes) wanted = bytes ≢ wanted
IsOther read_fault wanted = Unit {0}
IsOther (write_fault_after new) wanted = Unit {0}

-- the contents after these units, or those of them that are new, are written from that number on
abbrev pub written_by : DiskOutcome → ℕ → List (List ℕ) → List (List ℕ) → List (List ℕ)
written_by m first units contents = overwritten contents first (take (count_new m (length units)) units)

abbrev pub write_status : DiskOutcome → Status
write_status m = if is_fault m then write_fault else success

abbrev pub read_status : DiskOutcome → Status
read_status m = if is_fault m then unrecovered_read_error else success

-- a Read or a Compare of so many units meets no write fault, and finds as many bytes as they have; the others meet no read
-- fault, and find none; a write that failed has at most as many new units as it was to have
abbrev pub IsOfRead : ℕ → DiskOutcome → Type 0
IsOfRead units good = Unit {0}
IsOfRead units (found bytes) = length bytes ≡ 512 * units
IsOfRead units read_fault = Unit {0}
IsOfRead units (write_fault_after new) = ⊥

abbrev pub IsOfWrite : ℕ → DiskOutcome → Type 0
IsOfWrite count good = Unit {0}
IsOfWrite count (found bytes) = ⊥
IsOfWrite count read_fault = ⊥
IsOfWrite count (write_fault_after new) = new ≤ count

-- a write of these units leaves them in their places, unless the disk failed, and all others as they were
pub record Writes (first : ℕ) (units : List (List ℕ)) (old new : Stored) (status : Status) : Type 0 where
  pub disk_outcome : DiskOutcome
  pub of_write : IsOfWrite (length units) disk_outcome
  pub answer : status ≡ write_status disk_outcome
  pub contents : new.contents ≡ written_by disk_outcome first units old.contents
  pub counts : CountsBy disk_outcome old new

-- a Compare says whether these bytes were read of the extent, unless the disk failed to read them all
pub record Compares (e : Extent) (bytes : List ℕ) (old new : Stored) (status : Status) : Type 0 where
  pub disk_outcome : DiskOutcome
  pub of_read : IsOfRead e.units disk_outcome
  pub finds : IsOther disk_outcome (extent_bytes e old)
  pub same : is_fault disk_outcome ≡ false → bytes ≡ read_in disk_outcome e old.contents → status ≡ success
  pub other : is_fault disk_outcome ≡ false → ¬ (bytes ≡ read_in disk_outcome e old.contents) → status ≡ compare_failure
  pub failed : is_fault disk_outcome ≡ true → status ≡ unrecovered_read_error
  pub contents : new.contents ≡ old.contents
  pub counts : CountsBy disk_outcome old new

-- a Flush changes no unit
abbrev pub Flushes : Stored → Stored → Status → Type 0
Flushes old new status = Writes 0 [] old new status

-- where the answer is success, what the disk holds has been synced
abbrev pub IsSynced : Stored → Status → Type 0
IsSynced disk status = status ≡ success → disk.synced ≡ disk.contents
