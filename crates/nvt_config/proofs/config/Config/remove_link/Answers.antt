use Rattle.nvt_config.proofs.config.Config.remove_link.Goals as goal

pub invariant_of-self : goal.invariant_of-self
invariant_of-self c = rw (c.remove_states.ensures, c.as_bytes.ensures, c.remove_link.ensures) (rw (← c.self.view_is) at c.requires)
