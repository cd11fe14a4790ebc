use Rattle.std.proofs.Common.{length, ◌-◌, ◌*◌, ◌≡◌, ◌%◌, ◌/◌, ◌≤◌, false, take, drop}
use Rattle.block_store.specs.Range.{overwritten}
use Rattle.file_disk.proofs.ranges.write_units.Given as goal

abbrev pub invariant-loop-done : goal.invariant-loop-done
invariant-loop-done g l = record {
  within : l.done ≤ length l.bytes;
  contents : l.file.contents ≡ overwritten l.fn.file.contents l.first (take (l.done / 512) l.units);
  begun : take (l.done % 512) l.file.begun ≡ drop (l.done / 512 * 512) (take l.done l.bytes);
  strays : l.file.strays ≡ l.fn.file.strays;
  alive : l.file.is_dead ≡ false;
  failures : l.file.failures ≡ l.fn.file.failures;
}

abbrev pub decreases-loop-done : goal.decreases-loop-done
decreases-loop-done g l = length l.bytes - l.done
