use Rattle.std.proofs.Common.{◌≡◌, ◌++◌, List, take}
use Rattle.config_lists.specs.declared.show.Show.{Show}
use Rattle.nvt_config.specs.Viewers.{AreOwnOf}
use Rattle.change_lists.specs.Reached.{AreChangesFor}
use Rattle.change_lists.proofs.differences.add_changes.Given as goal

-- the hosts of the shows so far have theirs, beside those that had
abbrev pub invariant-loop-show : goal.invariant-loop-show
invariant-loop-show l = record {
  own : (before : List Show) → AreOwnOf before l.subsystem (AreChangesFor l.old l.new l.subsystem) l.fn.changed.own
      → AreOwnOf (before ++ take l.show-index l.shows) l.subsystem (AreChangesFor l.old l.new l.subsystem) l.changed.own;
  common : l.changed.common ≡ l.fn.changed.common;
}
