use Rattle.std.proofs.Common.{◌≡◌, replicate}
use Rattle.block_store.specs.Pieces.{blank_pieces, joined}
use Rattle.block_store.proofs.memory.MemoryDisk.new.Given as goal

abbrev pub invariant-loop : goal.invariant-loop
invariant-loop l = l.tables.items ≡ replicate l.counter (joined blank_pieces)
