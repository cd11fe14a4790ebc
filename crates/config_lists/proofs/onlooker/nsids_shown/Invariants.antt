use Rattle.std.proofs.Common.{◌≡◌, take}
use Rattle.config_lists.specs.Onlooker.{nsids_shown}
use Rattle.config_lists.proofs.onlooker.nsids_shown.Given as goal

-- those of the shows so far
abbrev pub invariant-loop-show : goal.invariant-loop-show
invariant-loop-show l = l.shown ≡ nsids_shown (take l.show-index l.shows) l.host l.subsystem
