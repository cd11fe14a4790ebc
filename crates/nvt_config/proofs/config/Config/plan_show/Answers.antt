use Rattle.std.proofs.Common.{◌≤◌, refl, arith}
use Rattle.config_lists.specs.declared.edit.Edit.TheVariants.{NamespaceShow}
use Rattle.nvt_config.specs.declared.plan.ListChange.TheVariants.{AddShow}
use Rattle.nvt_config.proofs.Effects.{is_plan, shown_nsid}
use Rattle.nvt_config.proofs.config.Config.plan_show.Goals as goal

pub overflow_cast-show : goal.overflow_cast-show
overflow_cast-show c =
    let small : c.args.nsid ≤ 4096 = shown_nsid _ _ c.args.subsystem.now c.args.nsid c.args.host.now c.self.view_is c.requires c.self.invariant in
    omega arith

pub returns : goal.returns
returns c =
    is_plan _ _ (NamespaceShow c.args.subsystem.now c.args.nsid c.args.host.now) c.new-2.result (AddShow c.in_ok-addition.addition) c.self.view_is c.requires c.new-2.ensures (rw (c.in_ok-addition.ensures.same, c.in_ok-try_clone.ensures, c.in_ok-try_clone-2.ensures) refl) (omega (arith, c.in_ok-addition.ensures.room)) c.self.invariant
