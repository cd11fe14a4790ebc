-- The operations: their disk, the data that they take, and what has to hold of them. A definition names the actions that it
-- is about: any other sends no data, and asks for nothing.
use Rattle.std.specs.Prelude.{◌≡◌, ◌≤◌, ◌<◌, ℕ, ◌+◌, ◌*◌, List, length, take, drop, slice_index_or}
use Rattle.io_queue.specs.declared.operation.Action.{Action}
use Rattle.io_queue.specs.declared.operation.Action.TheVariants as action
use Rattle.io_queue.specs.declared.operation.Extent.{Extent}
use Rattle.io_queue.specs.declared.operation.Operation.{Operation}

-- an action, done to an extent
abbrev pub operation_on : Extent → Action → Operation
operation_on e a = record { extent = e; action = a }

-- no units of a disk
abbrev pub no_units : ℕ → Extent
no_units disk = record { disk = disk; first = 0; units = 0 }

abbrev pub disk_of : Operation → ℕ
disk_of op = op.extent.disk

-- the data for an extent, of those that a capsule brings, from an offset on
abbrev pub brought : Extent → ℕ → List ℕ → List ℕ
brought e at bytes = take (512 * e.units) (drop at bytes)

-- how many bytes an action on so many units may send beside its response: a Read at most four C2HData, of which each has
-- a header of at most 128 bytes
abbrev pub room_by : Action → ℕ → ℕ
room_by action.Read units = 512 + 512 * units
room_by _ units = 0

-- so much room is made before the disk is asked: an operation that began lacks no memory
abbrev pub room_for : Operation → ℕ
room_for op = room_by op.action op.extent.units

-- one of the disks of these sizes, in units, has the extent
pub record HasExtent (units : List ℕ) (e : Extent) : Type 0 where
  pub disk : e.disk < length units
  pub within : e.first + e.units ≤ slice_index_or units e.disk 0

-- what an action on so many units asks: a Flush is of none, a Read of at most 256, and a capsule that brings so many bytes
-- brings the data that a Write or a Compare takes
abbrev pub Asks : Action → ℕ → ℕ → Type 0
Asks action.Flush brings units = units ≡ 0
Asks action.Read brings units = units ≤ 256
Asks (action.Write at fua) brings units = at + 512 * units ≤ brings
Asks (action.Compare at) brings units = at + 512 * units ≤ brings
Asks _ brings units = Unit {0}

-- the disks of these sizes have the extent of an operation, and it has what it asks for
abbrev pub IsWithin : List ℕ → ℕ → Operation → Type 0
IsWithin units brings op = HasExtent units op.extent × Asks op.action brings op.extent.units

-- .. a disk of this size has it
abbrev pub IsOnDisk : ℕ → ℕ → Extent → Action → Type 0
IsOnDisk size brings e a = (e.first + e.units ≤ size) × Asks a brings e.units
