use Rattle.std.proofs.Common.{◌≡◌, map}
use Rattle.target_core.proofs.disks.stores_of.Given as goal

abbrev pub invariant-loop-disk : goal.invariant-loop-disk
invariant-loop-disk g l =
    l.stores.items
    ≡ map
    (λ disk. record {
      contents = g.D.Disk.contents disk;
      synced = g.D.Disk.synced disk;
      faults = g.D.Disk.faults disk;
      strays = g.D.Disk.strays disk;
    })
    l.yielded
