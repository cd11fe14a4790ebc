use Rattle.std.proofs.Common.{◌≡◌, ◌+◌, ◌-◌, ◌≤◌, length, take}
use Rattle.block_store.specs.Memory.{memory_contents}
use Rattle.block_store.specs.Range.{overwritten}
use Rattle.block_store.proofs.memory.MemoryDiskDisk.write_range.Given as goal

abbrev pub invariant-loop-done : goal.invariant-loop-done
invariant-loop-done l = record {
  within : l.done ≤ length l.units;
  fits : l.first + length l.units ≤ l.self.units;
  contents : memory_contents l.self ≡ overwritten (memory_contents l.fn.self) l.first (take l.done l.units);
  faults : l.self.faults ≡ l.fn.self.faults;
}

abbrev pub decreases-loop-done : goal.decreases-loop-done
decreases-loop-done l = length l.units - l.done
