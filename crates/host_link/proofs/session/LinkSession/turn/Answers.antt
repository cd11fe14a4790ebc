use Rattle.host_link.proofs.Parts.{fewer_turns}
use Rattle.host_link.proofs.session.LinkSession.turn.Goals as goal

pub returns-clause-fewer : goal.returns-clause-fewer
returns-clause-fewer g c = fewer_turns c.exchange.result c.args.self.now _ c.exchange.new.self c.self.view_is c.requires c.exchange.ensures
