use Rattle.std.proofs.Common.{◌≡◌}
use Rattle.nvt_sockets.proofs.ports.SocketPorts.tick.Given as goal

abbrev pub invariant-loop-slot : goal.invariant-loop-slot
invariant-loop-slot g l = record {
  in_use : l.self.sockets.in_use ≡ l.fn.self.sockets.in_use;
  faults : l.self.faults ≡ l.fn.self.faults;
}
