use Rattle.std.proofs.Common.{◌≡◌, ◌-◌, ◌<◌, ◌≤◌, ℕ, length}
use Rattle.std.specs.List.{list_any}
use Rattle.config_lists.specs.Numbered.{numbers_from}
use Rattle.ana_view.specs.Counts.{count_after, count_in}
use Rattle.ana_view.specs.GroupChanges.{has_changed}
use Rattle.ana_view.proofs.counts.count_groups.Given as goal

-- the groups so far are counted, and the others are not
abbrev pub invariant-loop-group : goal.invariant-loop-group
invariant-loop-group l = record {
  len : length l.counts ≡ 32;
  changed : l.changed ≡ list_any (has_changed l.fn.changes) (numbers_from 1 (l.group - 1));
  counted : (group : ℕ) → 1 ≤ group → group < l.group → count_in l.counts group ≡ count_after (has_changed l.fn.changes group) (count_in l.fn.counts group);
  left : (group : ℕ) → l.group ≤ group → count_in l.counts group ≡ count_in l.fn.counts group;
}
