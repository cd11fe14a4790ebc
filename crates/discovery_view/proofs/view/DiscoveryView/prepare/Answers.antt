use Rattle.discovery_view.proofs.Reaching.{reach_met}
use Rattle.discovery_view.proofs.view.DiscoveryView.prepare.Goals as goal

pub returns-clause-reach : goal.returns-clause-reach
returns-clause-reach g c =
    rw (← c.self.view_is)
    (reach_met c.args.config.now c.args.edit.now c.self.inside.lists.shown c.self.inside.lists.slots c.self.inside.lists.rows c.in_ok-lists.lists _ _
    c.units.ensures.valid c.requires.accepted (rw (← c.self.view_is) at c.requires.of) c.in_ok-lists.ensures.next (rw c.fresh-2.ensures at c.form_all.ensures.count))
