use Rattle.host_link.proofs.Parts.{sends_some}
use Rattle.host_link.proofs.session.LinkSession.send.Goals as goal

pub returns : goal.returns
returns g c =
    sends_some c.in_ok-taken.taken c.output.result.now c.is_empty.result _ _ (g.L.Link.state c.send.new.self) c.taken.new.self c.self.view_is
    c.output.ensures c.in_ok-taken.ensures.within c.in_ok-taken.ensures.told c.taken.ensures.taken c.taken.ensures.agrees
    (rw c.«output-2».ensures at c.is_empty.ensures)
