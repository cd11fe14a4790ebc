-- The disks that arguments ask for.
use Rattle.std.specs.Prelude.{◌≡◌, ℕ, List, [], ◌∷◌, replicate}
use Rattle.block_store.specs.declared.memory.MemoryDisk.{MemoryDisk}
use Rattle.block_store.specs.Memory.{memory_contents}
use Rattle.block_store.specs.Unit.{zero_unit}
use Rattle.target_programs.specs.declared.disks.DiskArgument.{DiskArgument}
use Rattle.target_programs.specs.declared.disks.DiskArgument.TheVariants as argument
use Rattle.target_programs.specs.declared.served_disk.ServedDisk.{ServedDisk}
use Rattle.target_programs.specs.declared.served_disk.ServedDisk.TheVariants as served

-- a disk in memory is as large as it is asked for, in units; of one in a file the file says so
abbrev pub HasSize : DiskArgument → ℕ → Type 0
HasSize (argument.Memory units) size = size ≡ units
HasSize (argument.File path) size = Unit {0}

-- a disk is in memory, of so many units of zeros, or in a file, as it is asked for
abbrev pub Opens : {F : Type 0} → DiskArgument → ServedDisk MemoryDisk F → Type 0
Opens (argument.Memory units) (served.Memory disk) = memory_contents disk ≡ replicate units zero_unit
Opens (argument.Memory units) (served.File disk) = ⊥
Opens (argument.File path) (served.Memory disk) = ⊥
Opens (argument.File path) (served.File disk) = Unit {0}

-- each of these is so to one of those, in their order, and none is left
abbrev pub EachIsSo : {A B : Type 0} → (A → B → Type 0) → List A → List B → Type 0
EachIsSo Is [] [] = Unit {0}
EachIsSo Is [] (other ∷ others) = ⊥
EachIsSo Is (one ∷ ones) [] = ⊥
EachIsSo Is (one ∷ ones) (other ∷ others) = Is one other × EachIsSo Is ones others
