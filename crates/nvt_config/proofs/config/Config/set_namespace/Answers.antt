use Rattle.std.proofs.Common.{◌≡◌, length, arith}
use Rattle.config_lists.proofs.Lists.{written_back}
use Rattle.nvt_config.proofs.config.Config.set_namespace.Goals as goal

pub invariant_of-self : goal.invariant_of-self
invariant_of-self c =
    let whole : c.self.inside.namespaces.len ≡ length c.set_namespace.new.namespaces = omega arith in
    rw (written_back _ _ _ whole, c.set_namespace.ensures, c.deref_mut.ensures.value) (rw (← c.self.view_is) at c.requires)
