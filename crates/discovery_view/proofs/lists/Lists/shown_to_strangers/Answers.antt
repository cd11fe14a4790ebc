use Rattle.discovery_view.proofs.lists.Lists.shown_to_strangers.Goals as goal

pub new-requires : goal.new-requires
new-requires c = rw (c.as_slice.ensures.value, c.strangers.ensures) c.self.invariant.strangers
