use Rattle.host_link.proofs.Asking.{Asking}
use Rattle.host_link.proofs.session.LinkSession.enable.Given as goal

abbrev pub invariant-loop-status : goal.invariant-loop-status
invariant-loop-status g l = Asking l.initial.self l.self

abbrev pub decreases-loop-status : goal.decreases-loop-status
decreases-loop-status g l = l.self.turns
