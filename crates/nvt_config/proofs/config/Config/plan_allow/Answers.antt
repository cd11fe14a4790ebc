use Rattle.std.proofs.Common.{refl, arith}
use Rattle.config_lists.specs.declared.edit.Edit.TheVariants.{AllowAdd}
use Rattle.nvt_config.specs.declared.plan.ListChange.TheVariants.{AddAllow}
use Rattle.nvt_config.proofs.Effects.{is_plan}
use Rattle.nvt_config.proofs.config.Config.plan_allow.Goals as goal

pub returns : goal.returns
returns c =
    is_plan _ _ (AllowAdd c.args.subsystem.now c.args.host.now) c.new-2.result (AddAllow c.in_ok-addition.addition) c.self.view_is c.requires c.new-2.ensures (rw (c.in_ok-addition.ensures.same, c.in_ok-try_clone.ensures, c.in_ok-try_clone-2.ensures) refl) (omega (arith, c.in_ok-addition.ensures.room)) c.self.invariant
