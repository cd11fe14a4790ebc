use Rattle.std.proofs.Common.{take}
use Rattle.target_programs.specs.Disks.{EachIsSo, HasSize}
use Rattle.target_programs.proofs.disks.disk_sizes.Given as goal

abbrev pub invariant-loop-disk : goal.invariant-loop-disk
invariant-loop-disk g l = EachIsSo HasSize (take l.disk-index l.disks) l.sizes.items
