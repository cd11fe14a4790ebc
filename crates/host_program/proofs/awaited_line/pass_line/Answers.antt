use Rattle.std.proofs.Common.{arith}
use Rattle.host_program.proofs.LineTaken.{line_ended, read_on}
use Rattle.host_program.proofs.awaited_line.pass_line.Goals as goal

pub returns-then-byte-eq10-clause-passes : goal.returns-then-byte-eq10-clause-passes
returns-then-byte-eq10-clause-passes g c =
    line_ended _ c.in-Some.byte _ (g.R.Read.remaining c.loop.lines) _ (grind (arith, c.if-byte-eq10.true)) c.loop.invariant
    (rw c.in-Some.is at c.in_ok-byte.ensures.found)

pub loop-preserved : goal.loop-preserved
loop-preserved g c =
    read_on _ c.in-Some.byte _ (g.R.Read.remaining c.loop.lines) _ (grind (arith, c.if-byte-eq10.false)) c.loop.invariant
    (rw c.in-Some.is at c.in_ok-byte.ensures.found)
