use Rattle.std.proofs.Common.{refl}
use Rattle.config_lists.specs.declared.edit.Edit.TheVariants.{ReferralSet}
use Rattle.nvt_config.specs.declared.plan.ListChange.TheVariants.{ReplaceReferral}
use Rattle.nvt_config.proofs.Effects.{is_plan}
use Rattle.nvt_config.proofs.config.Config.plan_referral_set.Goals as goal

pub returns : goal.returns
returns c =
    is_plan _ _ (ReferralSet c.args.endpoint.now) c.new.result (ReplaceReferral c.in_ok-referral.referral) c.self.view_is c.requires c.new.ensures (rw c.in_ok-referral.ensures refl) tt c.self.invariant
