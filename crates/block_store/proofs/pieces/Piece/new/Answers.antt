use Rattle.block_store.proofs.Parts.{blank_piece_are}
use Rattle.block_store.proofs.pieces.Piece.new.Goals as goal

pub invariant_of-result : goal.invariant_of-result
invariant_of-result c = rw c.new.ensures.items blank_piece_are
