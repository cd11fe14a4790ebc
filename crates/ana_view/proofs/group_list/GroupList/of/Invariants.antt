use Rattle.std.proofs.Common.{◌≡◌}
use Rattle.ana_view.proofs.Pages.{shown_until}
use Rattle.ana_view.proofs.group_list.GroupList.of.Given as goal

-- those so far that are listed
abbrev pub invariant-loop-group : goal.invariant-loop-group
invariant-loop-group l = l.list.items ≡ shown_until l.groups l.group
