use Rattle.std.proofs.Common.{◌≡◌, ℕ, List, ◌++◌, length}
use Rattle.std.specs.Io.KnownBytes.{Appends}
use Rattle.edit_lines.specs.Printed.{output_lines}
use Rattle.edit_lines.proofs.print.Printer.pdus.Given as goal

abbrev pub decreases-loop-rest : goal.decreases-loop-rest
decreases-loop-rest g l = length l.rest

-- the lines that were written, and those of the rest, are all
abbrev pub invariant-loop-rest : goal.invariant-loop-rest
invariant-loop-rest g l = (done : List ℕ) × (output_lines l.connection l.output ≡ done ++ output_lines l.connection l.rest)
    × Appends (g.W.Write.contents l.initial.out) (g.W.Write.contents l.out) done
