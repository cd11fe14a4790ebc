use Rattle.std.proofs.Common.{refl, arith}
use Rattle.config_lists.specs.declared.edit.Edit.TheVariants.{PortAdd}
use Rattle.nvt_config.specs.declared.plan.ListChange.TheVariants.{AddPort}
use Rattle.nvt_config.proofs.Effects.{is_plan}
use Rattle.nvt_config.proofs.config.Config.plan_port.Goals as goal

pub returns : goal.returns
returns c =
    is_plan _ _ (PortAdd c.args.endpoint.now) c.new-2.result (AddPort c.in_ok-addition.addition) c.self.view_is c.requires c.new-2.ensures (rw (c.in_ok-addition.ensures.same, c.in_ok-port.ensures) refl) (omega (arith, c.in_ok-addition.ensures.room)) c.self.invariant
