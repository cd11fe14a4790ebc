use Rattle.std.proofs.Common.{◌≡◌, length}
use Rattle.nvt_sockets.proofs.hosts.HostSockets.new.Given as goal

abbrev pub invariant-loop : goal.invariant-loop
invariant-loop g l = length l.hosts.items ≡ l.counter
