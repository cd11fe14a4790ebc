use Rattle.discovery_view.proofs.Catalogs.{formed_spliced}
use Rattle.discovery_view.proofs.view.DiscoveryView.commit.Goals as goal

pub invariant_of-self : goal.invariant_of-self
invariant_of-self g c =
    rw (c.splice.ensures, c.first.ensures, c.last.ensures, c.commit.ensures.slots)
    (formed_spliced g.F.Former.bytes_of c.self.inside.formed.items c.plan.inside.fresh.items c.self.inside.lists.slots c.plan.inside.lists.fresh c.plan.inside.lists.first c.plan.inside.lists.last c.self.invariant c.plan.invariant)
