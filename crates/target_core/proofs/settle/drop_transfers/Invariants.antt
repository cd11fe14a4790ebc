use Rattle.data_transfer.specs.Parts.{part_at}
use Rattle.target_state.specs.Controllers.{is_gone}
use Rattle.target_core.proofs.Settling.{DroppedBelow}
use Rattle.target_core.proofs.settle.drop_transfers.Given as goal

-- the transfers of the connections below k that it ends are dropped
abbrev pub invariant-loop-k : goal.invariant-loop-k
invariant-loop-k l = DroppedBelow l.cause (is_gone l.gone) l.connections l.k (part_at l.fn.transfers) l.transfers
