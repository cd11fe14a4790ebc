use Rattle.nvt_config.proofs.config.Config.remove_show.Goals as goal

pub invariant_of-self : goal.invariant_of-self
invariant_of-self c = rw c.remove_show.ensures (rw (← c.self.view_is) at c.requires)
