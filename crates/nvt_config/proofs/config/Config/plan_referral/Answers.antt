use Rattle.std.proofs.Common.{refl, arith}
use Rattle.config_lists.specs.declared.edit.Edit.TheVariants.{ReferralAdd}
use Rattle.nvt_config.specs.declared.plan.ListChange.TheVariants.{AddReferral}
use Rattle.nvt_config.proofs.Effects.{is_plan}
use Rattle.nvt_config.proofs.config.Config.plan_referral.Goals as goal

pub returns : goal.returns
returns c =
    is_plan _ _ (ReferralAdd c.args.endpoint.now) c.new-2.result (AddReferral c.in_ok-addition.addition) c.self.view_is c.requires c.new-2.ensures (rw (c.in_ok-addition.ensures.same, c.in_ok-referral.ensures) refl) (omega (arith, c.in_ok-addition.ensures.room)) c.self.invariant
