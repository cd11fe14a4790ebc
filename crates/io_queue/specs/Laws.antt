-- Laws of the I/O commands, in the words of the subject.
use Rattle.std.specs.Prelude.{◌≡◌, ◌≤◌, ◌⊎◌, ℕ, ◌+◌, ◌*◌, Bool, List, Option, Some, find, length, replicate}
use Rattle.config_lists.specs.GroupState.{state_for}
use Rattle.config_lists.specs.Namespace.{is_named}
use Rattle.nvt_config.specs.Configuration.{Configuration}
use Rattle.nvt_config.specs.SeenBy.{seen_by}
use Rattle.io_queue.specs.declared.operation.Action.{Action}
use Rattle.io_queue.specs.declared.operation.Action.TheVariants as action
use Rattle.io_queue.specs.declared.operation.Extent.{Extent}
use Rattle.io_queue.specs.declared.operation.Operation.{Operation}
use Rattle.io_queue.specs.Act.{DiskOutcome, good}
use Rattle.io_queue.specs.Beginning.{begin}
use Rattle.io_queue.specs.Finishing.{finish}
use Rattle.io_queue.specs.Execution.{act_of, returned, write_on, written}
use Rattle.io_queue.specs.Operation.{IsOnDisk, brought, disk_of, operation_on}

-- ---- what is decided

-- Two configurations show a host the same of a subsystem on a port: which namespaces the host sees of it, and the state of
-- each ANA group.
pub record SeenAlike (host : List ℕ) (port : ℕ) (subsystem : List ℕ) (c d : Configuration) : Type 0 where
  pub namespaces : (nsid : ℕ)
      → find (is_named subsystem nsid) (seen_by c host).namespaces ≡ find (is_named subsystem nsid) (seen_by d host).namespaces
  pub states : (group : ℕ) → state_for port subsystem group c.states ≡ state_for port subsystem group d.states

-- .. then each command on a controller of it that the host made begins the same, and is finished the same, whatever else
-- they have
pub record DecidedByOwnAlone : Type 0 where
  pub begins : (c d : Configuration) (host : List ℕ) (port : ℕ) (subsystem entry : List ℕ) (capsule_len : ℕ)
      → SeenAlike host port subsystem c d
      → begin c host port subsystem entry capsule_len ≡ begin d host port subsystem entry capsule_len
  pub finishes : (c d : Configuration) (host : List ℕ) (port : ℕ) (subsystem entry : List ℕ) (came : ℕ)
      → SeenAlike host port subsystem c d
      → finish c host port subsystem entry came ≡ finish d host port subsystem entry came

-- ---- what is read

-- what a Read of an extent returns, where these are the units of its disk, which does not fail and has no others found
abbrev pub read_from : Extent → List (List ℕ) → Option (List ℕ)
read_from e contents = returned (operation_on e action.Read) contents good

-- the units of this disk after an operation, by the data in its capsule and what its disk did
abbrev pub left_by : Operation → List ℕ → DiskOutcome → ℕ → List (List ℕ) → List (List ℕ)
left_by op bytes m disk contents = written (write_on disk (act_of op bytes m)) contents

-- one ends before the other begins
abbrev pub AreApart : Extent → Extent → Type 0
AreApart e f = (e.first + e.units ≤ f.first) ⊎ (f.first + f.units ≤ e.first)

-- an action on this extent writes at most units that are not of that one
abbrev pub IsBesideBy : Extent → Action → Extent → Type 0
IsBesideBy e (action.Write at fua) f = AreApart e f
IsBesideBy e (action.WriteZeroes fua) f = AreApart e f
IsBesideBy e _ f = Unit {0}

abbrev pub IsBeside : Extent → Operation → Type 0
IsBeside e op = IsBesideBy e op.action op.extent

-- A Read returns what the latest Write or Write Zeroes of its extent left there; an operation on another disk, or
-- beside the extent, changes nothing of it, whether or not its disk fails.
pub record ReadsWhatWasWritten : Type 0 where
  pub given : (e : Extent) (at : ℕ) (fua : Bool) (bytes : List ℕ) (contents : List (List ℕ))
      → IsOnDisk (length contents) (length bytes) e (action.Write at fua)
      → read_from e (left_by (operation_on e (action.Write at fua)) bytes good e.disk contents) ≡ Some (brought e at bytes)
  pub zeros : (e : Extent) (fua : Bool) (bytes : List ℕ) (contents : List (List ℕ))
      → IsOnDisk (length contents) (length bytes) e (action.WriteZeroes fua)
      → read_from e (left_by (operation_on e (action.WriteZeroes fua)) bytes good e.disk contents) ≡ Some (replicate (512 * e.units) 0)
  pub elsewhere : (e : Extent) (op : Operation) (bytes : List ℕ) (m : DiskOutcome) (contents : List (List ℕ))
      → ¬ (e.disk ≡ disk_of op) → read_from e (left_by op bytes m e.disk contents) ≡ read_from e contents
  pub beside : (e : Extent) (op : Operation) (bytes : List ℕ) (m : DiskOutcome) (contents : List (List ℕ))
      → IsOnDisk (length contents) (length bytes) op.extent op.action → IsBeside e op
      → read_from e (left_by op bytes m e.disk contents) ≡ read_from e contents
