use Rattle.std.proofs.Common.{◌≤◌, refl, arith}
use Rattle.config_lists.specs.declared.edit.Edit.TheVariants.{LinkAdd}
use Rattle.nvt_config.specs.declared.plan.ListChange.TheVariants.{AddLink}
use Rattle.nvt_config.proofs.Effects.{is_plan, linked_port}
use Rattle.nvt_config.proofs.config.Config.plan_link.Goals as goal

pub overflow_cast-link : goal.overflow_cast-link
overflow_cast-link c =
    let small : c.args.port ≤ 65535 = linked_port _ _ c.args.port c.args.subsystem.now c.self.view_is c.requires c.self.invariant in
    omega arith

pub returns : goal.returns
returns c =
    is_plan _ _ (LinkAdd c.args.port c.args.subsystem.now) c.new-2.result (AddLink c.in_ok-addition.addition) c.self.view_is c.requires c.new-2.ensures (rw (c.in_ok-addition.ensures.same, c.in_ok-try_clone.ensures) refl) (omega (arith, c.in_ok-addition.ensures.room)) c.self.invariant
