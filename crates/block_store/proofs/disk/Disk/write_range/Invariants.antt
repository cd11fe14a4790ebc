use Rattle.std.proofs.Common.{◌≡◌, ◌+◌, take}
use Rattle.block_store.specs.Range.{overwritten}
use Rattle.block_store.proofs.disk.Disk.write_range.Given as goal

abbrev pub invariant-loop-bytes : goal.invariant-loop-bytes
invariant-loop-bytes g l =
    let contents = g.Self.Disk.contents in
    let strays = g.Self.Disk.strays in
    let faults = g.Self.Disk.faults in
    record {
      unit : l.unit ≡ l.first + l.bytes-index;
      contents : contents l.self ≡ overwritten (contents l.fn.self) l.first (take l.bytes-index l.units);
      strays : strays l.self ≡ strays l.fn.self;
      faults : faults l.self ≡ faults l.fn.self;
    }
