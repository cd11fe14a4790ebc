use Rattle.std.proofs.Common.{length, ◌-◌, ◌≡◌, ◌≤◌, false, replicate}
use Rattle.block_store.specs.Range.{overwritten}
use Rattle.block_store.specs.Unit.{zero_unit}
use Rattle.file_disk.proofs.ranges.zero_units.Given as goal

abbrev pub invariant-loop-done : goal.invariant-loop-done
invariant-loop-done g l = record {
  within : l.done ≤ l.count;
  contents : l.file.contents ≡ overwritten l.fn.file.contents l.first (replicate l.done zero_unit);
  long : length l.file.contents ≡ length l.fn.file.contents;
  strays : l.file.strays ≡ l.fn.file.strays;
  alive : l.file.is_dead ≡ false;
  failures : l.file.failures ≡ l.fn.file.failures;
}

abbrev pub decreases-loop-done : goal.decreases-loop-done
decreases-loop-done g l = l.count - l.done
