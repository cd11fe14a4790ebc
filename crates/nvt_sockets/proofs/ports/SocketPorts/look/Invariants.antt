use Rattle.std.proofs.Common.{◌≡◌}
use Rattle.nvt_sockets.proofs.ports.SocketPorts.look.Given as goal

-- nothing was found so far
abbrev pub invariant-loop-place : goal.invariant-loop-place
invariant-loop-place g l = record {
  in_use : l.self.sockets.in_use ≡ l.fn.self.sockets.in_use;
  faults : l.self.faults ≡ l.fn.self.faults;
  order : l.self.order ≡ l.fn.self.order;
}
