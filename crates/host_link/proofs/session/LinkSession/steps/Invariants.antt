use Rattle.host_link.proofs.Turning.{Stepping}
use Rattle.host_link.proofs.session.LinkSession.steps.Given as goal

abbrev pub invariant-loop : goal.invariant-loop
invariant-loop g l = Stepping l.fn.self l.self l.counter l.told
