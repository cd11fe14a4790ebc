use Rattle.target_programs.specs.Disks.{Opens}
use Rattle.target_programs.proofs.Each.{each_next}
use Rattle.target_programs.proofs.disks.opened_disks.Goals as goal

pub loop-disk-preserved : goal.loop-disk-preserved
loop-disk-preserved g c =
    rw c.in-Ok.ensures.items (each_next Opens c.args.disks.now c.loop-disk.disk-index c.disk-item.result c.loop-disk.opened.items c.in_ok-disk.disk
    c.loop-disk-test.true c.disk-item.is c.loop-disk.invariant c.in_ok-disk.ensures)
