use Rattle.std.proofs.Common.{◌≡◌, ◌*◌, take}
use Rattle.block_store.specs.Faults.{Strays}
use Rattle.block_store.specs.Range.{bytes_of, units_at}
use Rattle.block_store.proofs.disk.Disk.read_range.Given as goal

abbrev pub invariant-loop-i : goal.invariant-loop-i
invariant-loop-i g l =
    let contents = g.Self.Disk.contents in
    let synced = g.Self.Disk.synced in
    let strays = g.Self.Disk.strays in
    let faults = g.Self.Disk.faults in
    record {
      found : Strays (take (l.i * 512) l.out) (bytes_of (units_at (contents l.fn.self) l.first l.i)) (strays l.fn.self) (strays l.self);
      contents : contents l.self ≡ contents l.fn.self;
      synced : synced l.self ≡ synced l.fn.self;
      faults : faults l.self ≡ faults l.fn.self;
    }
