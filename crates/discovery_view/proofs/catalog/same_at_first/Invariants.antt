use Rattle.std.proofs.Common.{◌≡◌, ◌+◌, ◌≤◌, ◌-◌, drop, length, take}
use Rattle.discovery_view.specs.Plan.{common_first}
use Rattle.discovery_view.proofs.catalog.same_at_first.Given as goal

abbrev pub invariant-loop-same : goal.invariant-loop-same
invariant-loop-same l =
    record {
      within : l.same ≤ l.end;
      records : l.end ≤ length l.records;
      entries : l.end ≤ length l.entries;
      left : l.same + common_first (drop l.same l.records) (drop l.same l.entries) ≡ common_first l.records l.entries;
      alike : take l.same l.records ≡ take l.same l.entries;
    }

abbrev pub decreases-loop-same : goal.decreases-loop-same
decreases-loop-same l = l.end - l.same
