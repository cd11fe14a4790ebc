use Rattle.host_link.specs.Waiting.{is_asked}
use Rattle.host_link.proofs.Waited.{Waiting}
use Rattle.host_link.proofs.session.LinkSession.request.Given as goal

abbrev pub invariant-loop-self : goal.invariant-loop-self
invariant-loop-self g l = Waiting is_asked l.fn.self l.self

abbrev pub decreases-loop-self : goal.decreases-loop-self
decreases-loop-self g l = l.self.turns
