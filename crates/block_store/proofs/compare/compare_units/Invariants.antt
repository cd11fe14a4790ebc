use Rattle.std.proofs.Common.{◌≡◌, ◌*◌, take}
use Rattle.block_store.specs.Compare.{Compared}
use Rattle.block_store.specs.Range.{bytes_of, units_at}
use Rattle.block_store.proofs.compare.compare_units.Given as goal

abbrev pub invariant-loop-i : goal.invariant-loop-i
invariant-loop-i g l =
    let contents = g.D.Disk.contents in
    let synced = g.D.Disk.synced in
    let strays = g.D.Disk.strays in
    let faults = g.D.Disk.faults in
    record {
      compared : Compared (take (l.i * 512) l.bytes) (bytes_of (units_at (contents l.fn.disk) l.first l.i)) l.same (strays l.fn.disk) (strays l.disk);
      contents : contents l.disk ≡ contents l.fn.disk;
      synced : synced l.disk ≡ synced l.fn.disk;
      faults : faults l.disk ≡ faults l.fn.disk;
    }
