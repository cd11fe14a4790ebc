use Rattle.std.proofs.Common.{◌≡◌, length, arith}
use Rattle.config_lists.proofs.Lists.{written_back}
use Rattle.nvt_config.proofs.config.Config.replace_state.Goals as goal

pub invariant_of-self : goal.invariant_of-self
invariant_of-self c =
    let whole : c.self.inside.states.len ≡ length c.replace_state.new.states = omega arith in
    rw (written_back _ _ _ whole, c.replace_state.ensures, c.as_bytes.ensures, c.deref_mut.ensures.value) (rw (← c.self.view_is) at c.requires)
