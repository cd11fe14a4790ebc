use Rattle.std.proofs.Common.{◌≡◌, length, map, take}
use Rattle.target_core.proofs.disks.units_of.Given as goal

abbrev pub invariant-loop-disk : goal.invariant-loop-disk
invariant-loop-disk g l = l.units.items ≡ map length (map g.D.Disk.contents (take l.disk-index l.disks))
