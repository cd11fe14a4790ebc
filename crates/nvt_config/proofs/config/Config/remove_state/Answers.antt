use Rattle.nvt_config.proofs.config.Config.remove_state.Goals as goal

pub invariant_of-self : goal.invariant_of-self
invariant_of-self c = rw (c.remove_state.ensures, c.as_bytes.ensures) (rw (← c.self.view_is) at c.requires)
