use Rattle.std.proofs.Common.{◌≡◌, ◌≢◌, All, length}
use Rattle.std.specs.Io.KnownBytes.{Consumes}
use Rattle.host_parts.proofs.lines.next_line.Given as goal

-- a byte was taken in each turn, none of which ends a line
abbrev pub invariant-loop : goal.invariant-loop
invariant-loop g l = (length l.line.items ≡ l.counter) × All (λ byte. byte ≢ 10) l.line.items
    × Consumes (g.S.Read.remaining l.fn.stream) (g.S.Read.remaining l.stream) l.line.items
