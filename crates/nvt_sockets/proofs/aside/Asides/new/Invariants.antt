use Rattle.std.proofs.Common.{◌≡◌, length}
use Rattle.nvt_sockets.proofs.aside.Asides.new.Given as goal

abbrev pub invariant-loop : goal.invariant-loop
invariant-loop g l = length l.asides.items ≡ l.counter
