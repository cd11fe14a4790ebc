use Rattle.std.proofs.Common.{◌≡◌, replicate}
use Rattle.block_store.specs.Pieces.{blank_piece}
use Rattle.block_store.proofs.pieces.blank_table.Given as goal

abbrev pub invariant-loop : goal.invariant-loop
invariant-loop l = l.pieces.items ≡ replicate l.counter blank_piece
