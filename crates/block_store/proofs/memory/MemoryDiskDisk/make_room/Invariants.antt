use Rattle.std.proofs.Common.{◌≡◌, ◌+◌, ◌-◌, ◌≤◌}
use Rattle.block_store.specs.Memory.{memory_contents}
use Rattle.block_store.proofs.memory.MemoryDiskDisk.make_room.Given as goal

abbrev pub invariant-loop-done : goal.invariant-loop-done
invariant-loop-done l = record {
  within : l.done ≤ l.count;
  fits : l.first + l.count ≤ l.self.units;
  contents : memory_contents l.self ≡ memory_contents l.fn.self;
  faults : l.self.faults ≡ l.fn.self.faults;
}

abbrev pub decreases-loop-done : goal.decreases-loop-done
decreases-loop-done l = l.count - l.done
