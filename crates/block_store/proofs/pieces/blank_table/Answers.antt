use Rattle.std.proofs.Common.{arith, ◌∙◌}
use Rattle.block_store.proofs.Blanks.{pieces_none}
use Rattle.block_store.proofs.pieces.blank_table.Goals as goal

pub returns : goal.returns
returns c = c.loop.invariant ∙ pieces_none c.loop.counter (omega arith)
