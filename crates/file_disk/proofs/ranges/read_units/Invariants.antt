use Rattle.std.proofs.Common.{length, ◌-◌, ◌≡◌, ◌/◌, ◌≤◌, false, take}
use Rattle.block_store.specs.Faults.{Strays}
use Rattle.block_store.specs.Range.{bytes_of, units_at}
use Rattle.file_disk.proofs.ranges.read_units.Given as goal

abbrev pub invariant-loop-done : goal.invariant-loop-done
invariant-loop-done g l = record {
  within : l.done ≤ length l.out;
  found : Strays (take l.done l.out) (take l.done (bytes_of (units_at l.fn.file.contents l.first (length l.fn.out / 512)))) l.fn.file.strays l.file.strays;
  contents : l.file.contents ≡ l.fn.file.contents;
  synced : l.file.synced ≡ l.fn.file.synced;
  alive : l.file.is_dead ≡ false;
  failures : l.file.failures ≡ l.fn.file.failures;
}

abbrev pub decreases-loop-done : goal.decreases-loop-done
decreases-loop-done g l = length l.initial.out - l.done
