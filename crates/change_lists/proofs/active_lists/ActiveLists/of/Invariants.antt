use Rattle.std.proofs.Common.{take}
use Rattle.change_lists.proofs.Ready.{AreReady, names_of}
use Rattle.change_lists.proofs.active_lists.ActiveLists.of.Given as goal

-- the subsystems so far have their lists
abbrev pub invariant-loop-subsystem : goal.invariant-loop-subsystem
invariant-loop-subsystem l = AreReady l.config (names_of (take l.subsystem-index l.subsystem-items)) l.lists.shown
