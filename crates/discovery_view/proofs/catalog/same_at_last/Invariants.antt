use Rattle.std.proofs.Common.{◌≡◌, ◌+◌, ◌≤◌, ◌-◌, drop, length, reverse}
use Rattle.discovery_view.specs.Plan.{common_first, common_last}
use Rattle.discovery_view.proofs.catalog.same_at_last.Given as goal

abbrev pub invariant-loop-same : goal.invariant-loop-same
invariant-loop-same l =
    record {
      within : l.same ≤ l.end;
      records : l.end ≤ length l.records;
      entries : l.end ≤ length l.entries;
      left : l.same + common_first (drop l.same (reverse l.records)) (drop l.same (reverse l.entries)) ≡ common_last l.records l.entries;
      alike : drop (length l.records - l.same) l.records ≡ drop (length l.entries - l.same) l.entries;
    }

abbrev pub decreases-loop-same : goal.decreases-loop-same
decreases-loop-same l = l.end - l.same
