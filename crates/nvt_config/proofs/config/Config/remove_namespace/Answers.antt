use Rattle.nvt_config.proofs.config.Config.remove_namespace.Goals as goal

pub invariant_of-self : goal.invariant_of-self
invariant_of-self c = rw (c.remove_shows.ensures, c.remove_namespace.ensures) (rw (← c.self.view_is) at c.requires)
