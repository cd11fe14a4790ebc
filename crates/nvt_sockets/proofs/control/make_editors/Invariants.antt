use Rattle.std.proofs.Common.{◌≡◌, length}
use Rattle.nvt_sockets.proofs.control.make_editors.Given as goal

abbrev pub invariant-loop : goal.invariant-loop
invariant-loop g l = length l.editors.items ≡ l.counter
