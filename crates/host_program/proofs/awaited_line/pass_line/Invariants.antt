use Rattle.host_program.proofs.LineTaken.{HasRead}
use Rattle.host_program.proofs.awaited_line.pass_line.Given as goal

-- a byte was read in each turn, none of which ends a line
abbrev pub invariant-loop : goal.invariant-loop
invariant-loop g l = HasRead l.counter (g.R.Read.remaining l.fn.lines) (g.R.Read.remaining l.lines)
