use Rattle.std.proofs.Common.{take}
use Rattle.nvt_config.specs.SeenBy.{seen_by_strangers}
use Rattle.nvt_config.specs.Viewers.{AreOwnOf}
use Rattle.ana_view.specs.Reached.{AreGroupsFor}
use Rattle.ana_view.specs.View.{AreGroupsOf}
use Rattle.ana_view.proofs.bodies.groups_of.Given as goal

-- strangers have their groups, and the hosts of the shows so far their own
abbrev pub invariant-loop-show : goal.invariant-loop-show
invariant-loop-show l = record {
  strangers : AreGroupsOf (seen_by_strangers l.config) l.subsystem l.groups.common;
  own : AreOwnOf (take l.show-index l.show-items) l.subsystem (AreGroupsFor l.config l.subsystem) l.groups.own;
}
