-- What a disk in memory has.
use Rattle.std.specs.Prelude.{ℕ, List, take}
use Rattle.std.specs.List.{All}
use Rattle.std.proofs.lemmas.List.Elements.{All-take}
use Rattle.block_store.specs.declared.memory.MemoryDisk.{MemoryDisk}
use Rattle.block_store.specs.Pieces.{joined, units-joined}
use Rattle.block_store.specs.Unit.{IsUnit}

-- the bytes of each unit: as many as the disk has of those of its tables
abbrev pub memory_contents : MemoryDisk → List (List ℕ)
memory_contents disk = take disk.units (joined disk.tables.items)

-- each unit has 512 bytes
pub memory_whole : (disk : MemoryDisk) → All IsUnit (memory_contents disk)
memory_whole disk = All-take IsUnit disk.units (joined disk.tables.items) (units-joined 131072 disk.tables.items disk.whole.each)
