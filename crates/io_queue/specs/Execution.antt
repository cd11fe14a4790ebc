-- What an operation does to its disk, what it is answered and what it sends, by what the disk did. A definition names the
-- actions that it is about: any other succeeds where its disk does, fails to write, and returns and writes nothing.
use Rattle.std.specs.Prelude.{◌≡◌, ◌≢◌, ◌<◌, ℕ, ◌==◌, Bool, true, false, List, [], ◌++◌, length, take, replicate, bytes_eq, slice_index_or, map, Option, Some, None, option_map, if◌then◌else◌}
use Rattle.block_store.specs.Range.{overwritten, units_of}
use Rattle.block_store.specs.Stored.{Stored}
use Rattle.block_store.specs.Unit.{zero_unit}
use Rattle.block_store.specs.Write.{Write}
use Rattle.nvt_fields.specs.declared.status.Status.{Status}
use Rattle.nvt_fields.specs.Status.{compare_failure, success, unrecovered_read_error, write_fault}
use Rattle.io_queue.specs.declared.operation.Action.{Action}
use Rattle.io_queue.specs.declared.operation.Action.TheVariants as action
use Rattle.io_queue.specs.declared.operation.Extent.{Extent}
use Rattle.io_queue.specs.declared.operation.Operation.{Operation}
use Rattle.io_queue.specs.declared.reply.DataFormat.{DataFormat}
use Rattle.io_queue.specs.Act.{CountsBy, IsOfRead, IsOfWrite, IsOther, IsSynced, DiskOutcome, count_new, extent_bytes, found, good, is_fault, is_found, is_good, read_in}
use Rattle.io_queue.specs.Operation.{brought, disk_of, operation_on}
use Rattle.io_queue.specs.Reply.{returned_pdus}

-- ---- what it is answered

-- whether an extent has the data that it is compared with
abbrev pub compared : Bool → Status
compared same = if same then success else compare_failure

-- .. where the disk did all that was asked of it, by the bytes that were read
abbrev pub good_status : Action → Extent → List ℕ → List ℕ → Status
good_status (action.Compare at) e bytes read = compared (bytes_eq (brought e at bytes) read)
good_status _ e bytes read = success

-- whether it reads its extent, and so may fail to
abbrev pub reads : Action → Bool
reads action.Read = true
reads (action.Compare at) = true
reads _ = false

-- .. and where the disk failed
abbrev pub fault_status : Action → Status
fault_status a = if reads a then unrecovered_read_error else write_fault

-- by the data in its capsule and the contents of its disk before it
abbrev pub status_by : Operation → List ℕ → List (List ℕ) → DiskOutcome → Status
status_by op bytes contents m =
    if is_fault m then fault_status op.action else good_status op.action op.extent bytes (read_in m op.extent contents)

-- ---- what it returns

-- a Read that succeeds returns the bytes that were read, and nothing else returns any
abbrev pub returned_by : Action → List ℕ → DiskOutcome → Option (List ℕ)
returned_by action.Read read m = if is_fault m then None else Some read
returned_by _ read m = None

abbrev pub returned : Operation → List (List ℕ) → DiskOutcome → Option (List ℕ)
returned op contents m = returned_by op.action (read_in m op.extent contents) m

-- ---- what it writes

-- what it is to write: the data in its capsule, or zeros
abbrev pub write_by : Action → Extent → List ℕ → Option Write
write_by (action.Write at fua) e bytes = Some (record { first = e.first; units = units_of (brought e at bytes) })
write_by (action.WriteZeroes fua) e bytes = Some (record { first = e.first; units = replicate e.units zero_unit })
write_by _ e bytes = None

abbrev pub write_of : Operation → List ℕ → Option Write
write_of op bytes = write_by op.action op.extent bytes

-- those of its units that are new
abbrev pub new_of : DiskOutcome → Write → Write
new_of m w = record { first = w.first; units = take (count_new m (length w.units)) w.units }

-- a write of a disk
pub record Act : Type 0 where
  pub disk : ℕ
  pub write : Write

-- what it wrote
abbrev pub act_of : Operation → List ℕ → DiskOutcome → Option Act
act_of op bytes m = option_map (λ w. record { disk = disk_of op; write = new_of m w }) (write_of op bytes)

-- what a write makes of the contents
abbrev pub written : Option Write → List (List ℕ) → List (List ℕ)
written None contents = contents
written (Some w) contents = overwritten contents w.first w.units

-- the write that an act is of this disk
abbrev pub write_on : ℕ → Option Act → Option Write
write_on disk None = None
write_on disk (Some a) = if disk == a.disk then Some a.write else None

-- ---- an operation on its disk

-- what reads its extent meets no write fault, and what does not meets no read fault and finds no bytes; those that are
-- found are as many as its units have; a write that fails has at most as many new units as it was to have
abbrev pub MeetsBy : Bool → ℕ → DiskOutcome → Type 0
MeetsBy true units m = IsOfRead units m
MeetsBy false units m = IsOfWrite units m

-- the disk may do this
abbrev pub MayMeet : Operation → DiskOutcome → Type 0
MayMeet op m = MeetsBy (reads op.action) op.extent.units m

-- an action is done to an extent of its disk, and what it returns stands behind the output
pub record PerformsOn (e : Extent) (a : Action) (bytes : List ℕ) (format : DataFormat) (old new : Stored) (output appended : List ℕ) (status : Status) : Type 0 where
  pub disk_outcome : DiskOutcome
  pub meets : MayMeet (operation_on e a) disk_outcome
  pub finds : IsOther disk_outcome (extent_bytes e old)
  pub answer : status ≡ status_by (operation_on e a) bytes old.contents disk_outcome
  pub sends : appended ≡ output ++ returned_pdus format (returned (operation_on e a) old.contents disk_outcome)
  pub contents : new.contents ≡ written (option_map (new_of disk_outcome) (write_by a e bytes)) old.contents
  pub counts : CountsBy disk_outcome old new

-- where it is to last and is answered with success, what the disk holds has been synced; each action is named, since no
-- proof would ask for one that is not
abbrev pub Syncs : Action → Stored → Status → Type 0
Syncs action.Flush new status = IsSynced new status
Syncs action.Read new status = Unit {0}
Syncs (action.Write at fua) new status = fua ≡ true → IsSynced new status
Syncs (action.Compare at) new status = Unit {0}
Syncs (action.WriteZeroes fua) new status = fua ≡ true → IsSynced new status

-- ---- an operation on one of several disks

abbrev pub no_disk : Stored
no_disk = record { contents = []; synced = []; faults = 0; strays = 0 }

abbrev pub disk_at : List Stored → ℕ → Stored
disk_at disks d = slice_index_or disks d no_disk

-- the units of a disk; none where it is not there
abbrev pub contents_at : List Stored → ℕ → List (List ℕ)
contents_at disks d = (disk_at disks d).contents

-- the count of a disk's failures
abbrev pub faults_at : List Stored → ℕ → ℕ
faults_at disks d = (disk_at disks d).faults

-- the count of its reads that found other bytes
abbrev pub strays_at : List Stored → ℕ → ℕ
strays_at disks d = (disk_at disks d).strays

abbrev pub size_of : Stored → ℕ
size_of s = length s.contents

-- the number of units of each disk
abbrev pub sizes : List Stored → List ℕ
sizes disks = map size_of disks

-- no count of failures changed
abbrev pub NoFault : List Stored → List Stored → Type 0
NoFault old new = (d : ℕ) → faults_at new d ≡ faults_at old d

-- no count of strays changed
abbrev pub NoStray : List Stored → List Stored → Type 0
NoStray old new = (d : ℕ) → strays_at new d ≡ strays_at old d

-- What the disks did is a fault exactly where a count of failures changed, found bytes exactly where none did and a count
-- of strays did, and good exactly where no count changed.
pub record Tells (m : DiskOutcome) (old new : List Stored) : Type 0 where
  pub good : is_good m ≡ true → NoFault old new × NoStray old new
  pub strayed : is_found m ≡ true → NoFault old new × ¬ NoStray old new
  pub failed : is_fault m ≡ true → ¬ NoFault old new

-- these bytes, which were found, are other than those of the extent, and the count of its disk's strays rose
pub record Strayed (op : Operation) (bytes : List ℕ) (old new : List Stored) : Type 0 where
  pub other : bytes ≢ extent_bytes op.extent (disk_at old (disk_of op))
  pub rose : strays_at old (disk_of op) < strays_at new (disk_of op)

-- where bytes were found
abbrev pub Finds : Operation → DiskOutcome → List Stored → List Stored → Type 0
Finds op (found bytes) old new = Strayed op bytes old new
Finds op _ old new = Unit {0}

pub record Performs (op : Operation) (bytes : List ℕ) (format : DataFormat) (old new : List Stored) (output appended : List ℕ) (status : Status) : Type 0 where
  pub disk_outcome : DiskOutcome
  pub meets : MayMeet op disk_outcome
  pub tells : Tells disk_outcome old new
  pub finds : Finds op disk_outcome old new
  pub answer : status ≡ status_by op bytes (contents_at old (disk_of op)) disk_outcome
  pub sends : appended ≡ output ++ returned_pdus format (returned op (contents_at old (disk_of op)) disk_outcome)
  pub contents : (d : ℕ) → contents_at new d ≡ written (write_on d (act_of op bytes disk_outcome)) (contents_at old d)
  pub sizes : sizes new ≡ sizes old

abbrev pub SyncsIn : Operation → List Stored → Status → Type 0
SyncsIn op new status = Syncs op.action (disk_at new (disk_of op)) status

-- ---- an operation, or none

-- the disks may do this: with an operation what it may meet, and without one nothing is asked of them, so all is good
abbrev pub MayMeetIn : Option Operation → DiskOutcome → Type 0
MayMeetIn None m = m ≡ good
MayMeetIn (Some op) m = MayMeet op m

-- .. and where the operation is to last and is answered with success, what its disk holds has been synced
abbrev pub LastsIn : Option Operation → List ℕ → DiskOutcome → List Stored → List Stored → Type 0
LastsIn None bytes m old new = Unit {0}
LastsIn (Some op) bytes m old new = SyncsIn op new (status_by op bytes (contents_at old (disk_of op)) m)

-- .. and bytes that were found are other than those of its extent
abbrev pub FindsIn : Option Operation → DiskOutcome → List Stored → List Stored → Type 0
FindsIn None m old new = Unit {0}
FindsIn (Some op) m old new = Finds op m old new

-- The disks did this, with an operation that takes its data from these bytes, or without one: the counts of their failures
-- and strays tell it, it is what they may do then, what is to last has been synced, and bytes that were found are other
-- than those of the extent.
pub record DisksDid (op : Option Operation) (bytes : List ℕ) (m : DiskOutcome) (old new : List Stored) : Type 0 where
  pub tells : Tells m old new
  pub meets : MayMeetIn op m
  pub lasts : LastsIn op bytes m old new
  pub finds : FindsIn op m old new
