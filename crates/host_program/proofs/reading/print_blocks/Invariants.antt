use Rattle.std.proofs.Common.{◌≡◌, ℕ, List, ◌++◌, length}
use Rattle.std.specs.Io.KnownBytes.{Appends}
use Rattle.host_program.specs.Printed.{blocks_text}
use Rattle.host_program.proofs.reading.print_blocks.Given as goal

abbrev pub decreases-loop-rest : goal.decreases-loop-rest
decreases-loop-rest g l = length l.rest

-- the lines that were printed, and those of the rest, are all
abbrev pub invariant-loop-rest : goal.invariant-loop-rest
invariant-loop-rest g l = (done : List ℕ) × (blocks_text l.block_len l.bytes ≡ done ++ blocks_text l.block_len l.rest)
    × Appends (g.W.Write.contents l.fn.out) (g.W.Write.contents l.out) done
