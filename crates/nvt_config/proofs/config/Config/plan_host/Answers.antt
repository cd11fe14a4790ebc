use Rattle.std.proofs.Common.{sym, ◌∙◌, true, arith}
use Rattle.config_lists.specs.declared.edit.Edit.TheVariants.{HostAdd}
use Rattle.nvt_config.specs.declared.plan.ListChange.TheVariants.{AddHost, SetLive}
use Rattle.nvt_config.proofs.Effects.{is_plan, with_host-known, with_host-new}
use Rattle.nvt_config.proofs.config.Config.plan_host.Goals as goal

pub returns-then-has_host : goal.returns-then-has_host
returns-then-has_host c =
    let known = rw c.deref.ensures.value at (sym c.has_host.ensures ∙ c.if-has_host.true) in
    is_plan _ _ (HostAdd c.args.nqn.now) c.new.result (SetLive c.args.nqn true) c.self.view_is c.requires c.new.ensures (with_host-known _ c.args.nqn.now known) tt c.self.invariant

pub returns : goal.returns
returns c =
    let absent = rw c.deref.ensures.value at (sym c.has_host.ensures ∙ c.if-has_host.false) in
    is_plan _ _ (HostAdd c.args.nqn.now) c.new-3.result (AddHost c.in_ok-addition.addition) c.self.view_is c.requires c.new-3.ensures (rw (c.in_ok-addition.ensures.same, c.in_ok-try_clone.ensures) (with_host-new _ c.args.nqn.now absent)) (omega (arith, c.in_ok-addition.ensures.room)) c.self.invariant
