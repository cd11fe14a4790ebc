use Rattle.std.proofs.Common.{◌≡◌, take}
use Rattle.nvt_config.specs.Viewers.{AreOwnOf}
use Rattle.change_lists.specs.Reached.{IsListFor}
use Rattle.change_lists.proofs.active_lists.lists_of.Given as goal

-- the hosts of the shows so far have their lists
abbrev pub invariant-loop-show : goal.invariant-loop-show
invariant-loop-show l = record {
  own : AreOwnOf (take l.show-index l.show-items) l.subsystem (IsListFor l.config l.subsystem) l.lists.own;
  common : l.lists.common ≡ l.initial.lists.common;
}
