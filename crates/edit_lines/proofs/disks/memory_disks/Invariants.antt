use Rattle.std.proofs.Common.{◌≡◌, map, take}
use Rattle.block_store.specs.Memory.{memory_contents}
use Rattle.edit_lines.specs.Configured.{zeroed}
use Rattle.edit_lines.proofs.disks.memory_disks.Given as goal

abbrev pub invariant-loop-n : goal.invariant-loop-n
invariant-loop-n l = map memory_contents l.disks.items ≡ zeroed (take l.n-index l.units)
