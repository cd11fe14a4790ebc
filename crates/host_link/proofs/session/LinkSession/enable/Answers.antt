use Rattle.host_link.proofs.Asking.{asks_on}
use Rattle.host_link.proofs.session.LinkSession.enable.Goals as goal

pub loop-status-preserved : goal.loop-status-preserved
loop-status-preserved g c =
    asks_on c.in_ok-execute-2.field-0 c.execute.new.self c.loop-status.self c.execute-in-loop-status.new.self c.loop-status.invariant
    (rw c.property_get-status.ensures at c.in_ok-execute-2.ensures.does) c.if-branch-eq-READY.false
