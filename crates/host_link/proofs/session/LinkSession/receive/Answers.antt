use Rattle.std.proofs.lemmas.Result.{err_from_is_err_and}
use Rattle.host_link.proofs.Parts.{receives_err, receives_ok}
use Rattle.host_link.proofs.session.LinkSession.receive.Goals as goal

pub returns-in_err-received : goal.returns-in_err-received
returns-in_err-received g c =
    let p = err_from_is_err_and c.from_residual.result c.from_residual.ensures.1 in
    rw (p.1, p.2) (receives_err _ c.fill-received.result c.args.self.now _ (g.L.Link.state c.fill-received.new.link) c.give_to.new.queue c.fill-received.new.self
    c.give_to.new.self c.self.view_is c.fill-received.ensures c.give_to.ensures c.in_err-received.was)

pub returns : goal.returns
returns g c =
    receives_ok _ c.fill-received.result c.args.self.now _ (g.L.Link.state c.fill-received.new.link) c.give_to.new.queue c.fill-received.new.self
    c.give_to.new.self c.self.view_is c.fill-received.ensures c.give_to.ensures c.in_ok-received.was
