use Rattle.std.proofs.Common.{◌≡◌}
use Rattle.tables.proofs.NumberWalks.{mapped_below}
use Rattle.target_core.specs.Connection.{settled}
use Rattle.target_state.specs.Controllers.{is_gone}
use Rattle.target_core.proofs.settle.end_connections.Given as goal

-- the connections below k are settled
abbrev pub invariant-loop-k : goal.invariant-loop-k
invariant-loop-k l = l.connections ≡ mapped_below (settled l.cause (is_gone l.gone)) l.k l.fn.connections
