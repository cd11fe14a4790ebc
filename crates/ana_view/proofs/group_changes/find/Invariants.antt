use Rattle.std.proofs.Common.{◌≡◌, drop}
use Rattle.ana_view.specs.GroupChanges.{group_in}
use Rattle.ana_view.proofs.group_changes.find.Given as goal

-- it comes to those that are left
abbrev pub invariant-loop-group : goal.invariant-loop-group
invariant-loop-group l = group_in (drop l.group-index l.groups) l.id ≡ group_in l.fn.groups l.id
