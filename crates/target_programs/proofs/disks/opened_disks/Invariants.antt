use Rattle.std.proofs.Common.{take}
use Rattle.target_programs.specs.Disks.{EachIsSo, Opens}
use Rattle.target_programs.proofs.disks.opened_disks.Given as goal

abbrev pub invariant-loop-disk : goal.invariant-loop-disk
invariant-loop-disk g l = EachIsSo Opens (take l.disk-index l.disks) l.opened.items
