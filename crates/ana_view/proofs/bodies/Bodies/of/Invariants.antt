use Rattle.std.proofs.Common.{take}
use Rattle.ana_view.proofs.Shows.{AreReady, names_of}
use Rattle.ana_view.proofs.bodies.Bodies.of.Given as goal

-- the subsystems so far have their groups
abbrev pub invariant-loop-subsystem : goal.invariant-loop-subsystem
invariant-loop-subsystem l =
    AreReady l.config (names_of (take l.subsystem-index l.subsystem-items)) l.bodies.shown
