use Rattle.discovery_view.proofs.Plans.{place_is}
use Rattle.discovery_view.proofs.table.Table.place_of.Goals as goal

pub returns : goal.returns
returns c = rw (← c.self.view_is) (place_is (λ k. k.items) c.self.inside.hosts.entries c.args.host.now c.get_index_of.result c.get_index_of.ensures.index)
