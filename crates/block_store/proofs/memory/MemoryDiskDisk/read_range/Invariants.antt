use Rattle.std.proofs.Common.{◌≡◌, ◌+◌, ◌-◌, ◌*◌, ◌≤◌, take}
use Rattle.block_store.specs.Memory.{memory_contents}
use Rattle.block_store.specs.Range.{bytes_of, units_at}
use Rattle.block_store.proofs.memory.MemoryDiskDisk.read_range.Given as goal

abbrev pub invariant-loop-done : goal.invariant-loop-done
invariant-loop-done l = record {
  within : l.done ≤ l.count;
  fits : l.first + l.count ≤ l.self.units;
  found : take (l.done * 512) l.out ≡ bytes_of (units_at (memory_contents l.self) l.first l.done);
}

abbrev pub decreases-loop-done : goal.decreases-loop-done
decreases-loop-done l = l.count - l.done
