use Rattle.std.proofs.Common.{◌≡◌, ◌<◌, ◌≤◌, ℕ, length}
use Rattle.ana_view.specs.GroupChanges.{differs_in, has_changed}
use Rattle.ana_view.proofs.group_changes.differences.Given as goal

-- the groups so far are said
abbrev pub invariant-loop-group : goal.invariant-loop-group
invariant-loop-group l = record {
  len : length l.changed ≡ 32;
  said : (group : ℕ) → 1 ≤ group → group < l.group → has_changed l.changed group ≡ differs_in l.fn.old l.fn.new group;
}
