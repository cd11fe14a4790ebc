use Rattle.std.proofs.Common.{refl, arith}
use Rattle.config_lists.specs.declared.edit.Edit.TheVariants.{SubsystemAdd}
use Rattle.nvt_config.specs.declared.plan.ListChange.TheVariants.{AddSubsystem}
use Rattle.nvt_config.proofs.Effects.{is_plan}
use Rattle.nvt_config.proofs.config.Config.plan_subsystem.Goals as goal

pub returns : goal.returns
returns c =
    is_plan _ _ (SubsystemAdd c.args.nqn.now c.args.serial.now c.args.access) c.new-2.result (AddSubsystem c.in_ok-addition.addition) c.self.view_is c.requires c.new-2.ensures (rw (c.in_ok-addition.ensures.same, c.in_ok-try_clone.ensures, c.in_ok-clone.ensures.cases) refl) (omega (arith, c.in_ok-addition.ensures.room)) c.self.invariant
