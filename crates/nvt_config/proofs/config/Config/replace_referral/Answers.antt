use Rattle.std.proofs.Common.{◌≡◌, length, arith}
use Rattle.config_lists.proofs.Lists.{written_back}
use Rattle.nvt_config.proofs.config.Config.replace_referral.Goals as goal

pub invariant_of-self : goal.invariant_of-self
invariant_of-self c =
    let whole : c.self.inside.referrals.len ≡ length c.replace_port.new.ports = omega arith in
    rw (written_back _ _ _ whole, c.replace_port.ensures, c.deref_mut.ensures.value) (rw (← c.self.view_is) at c.requires)
