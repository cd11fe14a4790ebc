use Rattle.std.proofs.Common.{◌≡◌, ◌-◌, replicate, take}
use Rattle.block_store.specs.Range.{overwritten}
use Rattle.block_store.specs.Unit.{zero_unit}
use Rattle.block_store.proofs.disk.Disk.zero_range.Given as goal

abbrev pub invariant-loop-unit : goal.invariant-loop-unit
invariant-loop-unit g l =
    let contents = g.Self.Disk.contents in
    let strays = g.Self.Disk.strays in
    let faults = g.Self.Disk.faults in
    let written = take (l.unit - l.first) (replicate l.fn.count zero_unit) in
    record {
      contents : contents l.self ≡ overwritten (contents l.fn.self) l.first written;
      strays : strays l.self ≡ strays l.fn.self;
      faults : faults l.self ≡ faults l.fn.self;
    }
