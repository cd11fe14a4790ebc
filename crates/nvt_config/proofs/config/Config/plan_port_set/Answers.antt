use Rattle.std.proofs.Common.{refl}
use Rattle.config_lists.specs.declared.edit.Edit.TheVariants.{PortSet}
use Rattle.nvt_config.specs.declared.plan.ListChange.TheVariants.{ReplacePort}
use Rattle.nvt_config.proofs.Effects.{is_plan}
use Rattle.nvt_config.proofs.config.Config.plan_port_set.Goals as goal

pub returns : goal.returns
returns c =
    is_plan _ _ (PortSet c.args.endpoint.now) c.new.result (ReplacePort c.in_ok-port.port) c.self.view_is c.requires c.new.ensures (rw c.in_ok-port.ensures refl) tt c.self.invariant
