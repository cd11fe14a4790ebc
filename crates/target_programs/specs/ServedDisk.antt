-- A disk of one of two kinds.
use Rattle.std.specs.Prelude.{ℕ, List}
use Rattle.std.specs.List.{All}
use Rattle.block_store.specs.Unit.{IsUnit}
use Rattle.target_programs.specs.declared.served_disk.ServedDisk.{ServedDisk}
use Rattle.target_programs.specs.declared.served_disk.ServedDisk.TheVariants.{Memory, File}

-- what the disk has that it is
abbrev pub by_kind : {M F T : Type 0} → (M → T) → (F → T) → ServedDisk M F → T
by_kind memory file (Memory disk) = memory disk
by_kind memory file (File disk) = file disk

-- each unit has 512 bytes, where that is so for each of the kinds
pub whole_by_kind : {M F : Type 0} (memory : M → List (List ℕ)) (file : F → List (List ℕ)) → ((disk : M) → All IsUnit (memory disk))
    → ((disk : F) → All IsUnit (file disk)) → (disk : ServedDisk M F) → All IsUnit (by_kind memory file disk)
whole_by_kind memory file memories files (Memory disk) = memories disk
whole_by_kind memory file memories files (File disk) = files disk
