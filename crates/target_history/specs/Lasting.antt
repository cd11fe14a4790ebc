-- What a power cut may leave of the disks, and what lasts through it.
use Rattle.std.specs.Prelude.{◌≡◌, ℕ, ◌+◌, ◌-◌, ◌*◌, ◌<◌, ◌≤◌, ◌==◌, Bool, true, false, not, ◌&&◌, ◌||◌, List, [], ◌∷◌, ◌++◌, ◌⊎◌, ◌↔◌, length, take, drop, map, slice_index_or, All, Contains, Option, Some, None, IsSomeAnd, IsTrue, option_map, if◌then◌else◌}
use Rattle.block_store.specs.Stored.{Stored}
use Rattle.block_store.specs.Unit.{IsUnit, zero_unit}
use Rattle.block_store.specs.Write.{Write, writes}
use Rattle.nvt_config.specs.Configuration.{are_disks}
use Rattle.nvt_fields.specs.Status.{success}
use Rattle.io_queue.specs.declared.operation.Action.{Action}
use Rattle.io_queue.specs.declared.operation.Action.TheVariants as action
use Rattle.io_queue.specs.declared.operation.Operation.{Operation}
use Rattle.io_queue.specs.Act.{DiskOutcome, is_fault, is_found}
use Rattle.io_queue.specs.Execution.{Act, disk_at, status_by, write_of, write_on}
use Rattle.io_queue.specs.Operation.{disk_of}
use Rattle.target_history.specs.Event.{Event, disk_outcome_in}
use Rattle.target_history.specs.Completed.{returned_at, status_at}
use Rattle.target_history.specs.History.{Opening, blocks_of, happened, meets_after}
use Rattle.target_history.specs.Occurrence.{DisksAct, Occurrence, bytes_asked, operation_asked}

-- the units of a disk, and none where it is not there
abbrev pub units_in : Opening → ℕ → List (List ℕ)
units_in disks disk = slice_index_or disks disk []

-- the bytes of a unit
abbrev pub unit_at : List (List ℕ) → ℕ → List ℕ
unit_at contents unit = slice_index_or contents unit []

-- ---- what is written to a unit

-- the write that is asked of its disk, with all its units, whatever becomes of it
abbrev pub whole_write : Option Operation → List ℕ → Option Act
whole_write None bytes = None
whole_write (Some op) bytes = option_map (λ w. record { disk = disk_of op; write = w }) (write_of op bytes)

-- what a write is to give this unit
abbrev pub given_by : Option Write → ℕ → Option (List ℕ)
given_by None unit = None
given_by (Some w) unit = if writes w unit then Some (slice_index_or w.units (unit - w.first) []) else None

-- the bytes that it was to write to this unit of a disk: a Write its data, a Write Zeroes zeros. Where it failed too, since
-- each of its units may then be new
abbrev pub gives : Occurrence → ℕ → ℕ → Option (List ℕ)
gives x disk unit = given_by (write_on disk (whole_write (operation_asked x) (bytes_asked x))) unit

abbrev pub with_given : Option (List ℕ) → List (List ℕ) → List (List ℕ)
with_given None earlier = earlier
with_given (Some bytes) earlier = bytes ∷ earlier

-- all that was ever to be written to the unit, the newest first
abbrev pub given_to : List Occurrence → ℕ → ℕ → List (List ℕ)
given_to [] disk unit = []
given_to (x ∷ before) disk unit = with_given (gives x disk unit) (given_to before disk unit)

-- ---- what makes it last

-- the disk did what was asked of it: exactly then a Write, Write Zeroes or Flush is answered with success
abbrev pub succeeds : Occurrence → Bool
succeeds x = not (is_fault (disk_outcome_in x.event))

-- whether what its disk holds is to last behind it; each action is named, as where this is asked of a disk
abbrev pub is_to_last : Action → Bool
is_to_last action.Flush = true
is_to_last action.Read = false
is_to_last (action.Write at fua) = fua
is_to_last (action.Compare at) = false
is_to_last (action.WriteZeroes fua) = fua

abbrev pub is_to_last_on : Option Operation → ℕ → Bool
is_to_last_on None disk = false
is_to_last_on (Some op) disk = (disk == disk_of op) && is_to_last op.action

-- whether it syncs this disk: a Flush of it, or a Write or Write Zeroes of it with FUA, that is answered with success
abbrev pub syncs : Occurrence → ℕ → Bool
syncs x disk = is_to_last_on (operation_asked x) disk && succeeds x

-- whether any of these did
abbrev pub has_synced : List Occurrence → ℕ → Bool
has_synced [] disk = false
has_synced (x ∷ before) disk = syncs x disk || has_synced before disk

-- ---- what may be left

-- What a power cut may leave of a unit, each unit by itself: what the latest sync of its disk found there, or what some write
-- since then was to give it. Before any sync that is what the disk opened with.
abbrev pub may_be_left : Opening → List Occurrence → ℕ → ℕ → List (List ℕ)
may_be_left disks [] disk unit = unit_at (units_in disks disk) unit ∷ []
may_be_left disks (x ∷ before) disk unit =
    if syncs x disk then unit_at (blocks_of disks (x ∷ before) disk) unit ∷ [] else
    with_given (gives x disk unit) (may_be_left disks before disk unit)

-- These may be left of the disks after all that happened: as many, of the same sizes, and each unit is one of its own that
-- may be left.
pub record MayBeLeft (disks : Opening) (happened : List Occurrence) (left : Opening) : Type 0 where
  pub count : length left ≡ length disks
  pub sizes : (disk : ℕ) → length (units_in left disk) ≡ length (units_in disks disk)
  pub units : (disk unit : ℕ) → unit < length (units_in disks disk)
      → Contains (may_be_left disks happened disk unit) (unit_at (units_in left disk) unit)

-- ---- what is promised of it

-- What is to be written to a unit is what was brought for it, of a Write the 512 bytes of its data at the unit's place, of a
-- Write Zeroes zeros; also where its disk fails.
pub record GivesWhatWasBrought : Type 0 where
  pub writes : (x : Occurrence) (op : Operation) (at unit : ℕ) (fua : Bool) → operation_asked x ≡ Some op → op.action ≡ action.Write at fua
      → at + 512 * op.extent.units ≤ length (bytes_asked x) → op.extent.first ≤ unit → unit < op.extent.first + op.extent.units
      → gives x (disk_of op) unit ≡ Some (take 512 (drop (at + 512 * (unit - op.extent.first)) (bytes_asked x)))
  pub zeroes : (x : Occurrence) (op : Operation) (unit : ℕ) (fua : Bool) → operation_asked x ≡ Some op → op.action ≡ action.WriteZeroes fua
      → op.extent.first ≤ unit → unit < op.extent.first + op.extent.units → gives x (disk_of op) unit ≡ Some zero_unit
  -- and nothing beside its extent
  pub within : (x : Occurrence) (disk unit : ℕ) (bytes : List ℕ) → gives x disk unit ≡ Some bytes
      → IsSomeAnd (operation_asked x) (λ op. (disk ≡ disk_of op) × (op.extent.first ≤ unit) × (unit < op.extent.first + op.extent.units))

-- A Write, Write Zeroes or Flush is answered with success exactly where its disk did what was asked of it.
pub record AnsweredAsDone : Type 0 where
  pub writes : (op : Operation) (bytes : List ℕ) (contents : List (List ℕ)) (m : DiskOutcome) (w : Write) → write_of op bytes ≡ Some w
      → (status_by op bytes contents m ≡ success) ↔ (is_fault m ≡ false)
  pub flushes : (op : Operation) (bytes : List ℕ) (contents : List (List ℕ)) (m : DiskOutcome) → op.action ≡ action.Flush
      → (status_by op bytes contents m ≡ success) ↔ (is_fault m ≡ false)

-- A Flush, and a write with FUA, that is answered with success syncs its disk. What syncs a disk by the history has synced
-- it: what the disk holds then is what it has synced.
pub record SyncsReachTheDisks : Type 0 where
  pub flush : (x : Occurrence) (op : Operation) → operation_asked x ≡ Some op → op.action ≡ action.Flush
      → succeeds x ≡ true → syncs x (disk_of op) ≡ true
  pub write : (x : Occurrence) (op : Operation) (at : ℕ) → operation_asked x ≡ Some op → op.action ≡ action.Write at true
      → succeeds x ≡ true → syncs x (disk_of op) ≡ true
  pub zeroes : (x : Occurrence) (op : Operation) → operation_asked x ≡ Some op → op.action ≡ action.WriteZeroes true
      → succeeds x ≡ true → syncs x (disk_of op) ≡ true
  pub synced : (x : Occurrence) (old new : List Stored) (disk : ℕ) → DisksAct x old new → syncs x disk ≡ true
      → (disk_at new disk).synced ≡ (disk_at new disk).contents

-- This wrote a unit, and was answered with success. Some occurrence from it on, it or a newer one, synced the disk, and no
-- newer one was to write the unit.
pub record IsLasting (newer : List Occurrence) (x : Occurrence) (disk unit : ℕ) (bytes : List ℕ) : Type 0 where
  pub given : gives x disk unit ≡ Some bytes
  pub succeeded : succeeds x ≡ true
  pub synced : has_synced (newer ++ x ∷ []) disk ≡ true
  pub latest : given_to newer disk unit ≡ []

-- what was answered as lasting is there, whatever else is
pub record LastingWritesLast : Type 0 where
  pub last : (disks left : Opening) (newer older : List Occurrence) (x : Occurrence) (disk unit : ℕ) (bytes : List ℕ)
      → IsLasting newer x disk unit bytes → unit < length (units_in disks disk) → MayBeLeft disks (newer ++ x ∷ older) left
      → unit_at (units_in left disk) unit ≡ bytes

-- what a sync found of a unit is there, where nothing newer was to write it
pub record SyncedUnitsStay : Type 0 where
  pub stay : (disks left : Opening) (newer older : List Occurrence) (x : Occurrence) (disk unit : ℕ) → syncs x disk ≡ true
      → given_to newer disk unit ≡ [] → unit < length (units_in disks disk) → MayBeLeft disks (newer ++ x ∷ older) left
      → unit_at (units_in left disk) unit ≡ unit_at (blocks_of disks (x ∷ older) disk) unit

-- a unit that was never to be written is as it was
pub record UntouchedUnitsStay : Type 0 where
  pub stay : (disks left : Opening) (happened : List Occurrence) (disk unit : ℕ) → given_to happened disk unit ≡ []
      → unit < length (units_in disks disk) → MayBeLeft disks happened left
      → unit_at (units_in left disk) unit ≡ unit_at (units_in disks disk) unit

-- each unit that is left is one that the disk opened with, or that was to be written there
pub record LeftWasWritten : Type 0 where
  pub written : (disks left : Opening) (happened : List Occurrence) (disk unit : ℕ)
      → unit < length (units_in disks disk) → MayBeLeft disks happened left
      → (unit_at (units_in left disk) unit ≡ unit_at (units_in disks disk) unit)
      ⊎ Contains (given_to happened disk unit) (unit_at (units_in left disk) unit)

-- where there may be disks of these sizes, they keep them
pub record SizesStay : Type 0 where
  pub stay : (disks : Opening) (events : List Event) (disk : ℕ) → IsTrue (are_disks (map length disks))
      → length (blocks_of disks (happened disks events) disk) ≡ length (units_in disks disk)

-- what stands may be left, so that something always may; a program that is killed finds it
pub record WhatStandsMayBeLeft : Type 0 where
  pub unit : (disks : Opening) (happened : List Occurrence) (disk unit : ℕ) → unit < length (units_in disks disk)
      → Contains (may_be_left disks happened disk unit) (unit_at (blocks_of disks happened disk) unit)
  pub disks : (disks now : Opening) (events : List Event) → IsTrue (are_disks (map length disks)) → length now ≡ length disks
      → ((disk : ℕ) → units_in now disk ≡ blocks_of disks (happened disks events) disk)
      → MayBeLeft disks (happened disks events) now

-- Until its disk is synced a write may be lost: what might have been left before may be left still, and so may all that
-- was to be written since.
pub record UnsyncedMayBeLost : Type 0 where
  pub before : (disks : Opening) (newer older : List Occurrence) (disk unit : ℕ) (bytes : List ℕ) → has_synced newer disk ≡ false
      → Contains (may_be_left disks older disk unit) bytes → Contains (may_be_left disks (newer ++ older) disk unit) bytes
  pub since : (disks : Opening) (newer older : List Occurrence) (disk unit : ℕ) (bytes : List ℕ) → has_synced newer disk ≡ false
      → Contains (given_to newer disk unit) bytes → Contains (may_be_left disks (newer ++ older) disk unit) bytes

-- A target is made with what is left of the disks of another, whose units have 512 bytes each. A Read there that is answered
-- with success, where its disk finds what was written, returns, at the place of each unit that lasts and that nothing there
-- was to write, the bytes that were written.
pub record ReadsFindWhatLasts : Type 0 where
  pub reads : (disks left : Opening) (newer older : List Occurrence) (x : Occurrence) (bytes : List ℕ) (events : List Event) (event : Event) (op : Operation) (unit : ℕ)
      → ((disk : ℕ) → All IsUnit (units_in disks disk)) → MayBeLeft disks (newer ++ x ∷ older) left
      → operation_asked (meets_after left (happened left events) event) ≡ Some op → op.action ≡ action.Read
      → is_found (disk_outcome_in event) ≡ false → status_at left (happened left events) event op ≡ success
      → op.extent.first ≤ unit → unit < op.extent.first + op.extent.units → unit < length (units_in disks (disk_of op))
      → IsLasting newer x (disk_of op) unit bytes → given_to (happened left events) (disk_of op) unit ≡ []
      → IsSomeAnd (returned_at left (happened left events) event op) (λ found. take 512 (drop (512 * (unit - op.extent.first)) found) ≡ bytes)
