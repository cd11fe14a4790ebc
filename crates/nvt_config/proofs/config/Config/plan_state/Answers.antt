use Rattle.std.proofs.Common.{sym, ◌∙◌, ◌≤◌, arith}
use Rattle.config_lists.specs.declared.edit.Edit.TheVariants.{AnaSet}
use Rattle.nvt_config.specs.declared.plan.ListChange.TheVariants.{AddState, RemoveState, ReplaceState}
use Rattle.nvt_config.proofs.Effects.{is_plan, state_numbers, with_ana_state-known, with_ana_state-new, with_ana_state-none}
use Rattle.nvt_config.proofs.config.Config.plan_state.Goals as goal

pub returns-then-is_optimized : goal.returns-then-is_optimized
returns-then-is_optimized c =
    let none = sym c.is_optimized.ensures ∙ c.if-is_optimized.true in
    is_plan _ _ (AnaSet c.args.port c.args.subsystem.now c.args.group c.args.state) c.new.result (RemoveState c.args.port c.args.subsystem c.args.group) c.self.view_is c.requires c.new.ensures (with_ana_state-none _ c.args.port c.args.subsystem.now c.args.group c.args.state none) tt c.self.invariant

pub returns-then-has_state : goal.returns-then-has_state
returns-then-has_state c =
    let some = sym c.is_optimized.ensures ∙ c.if-is_optimized.false in
    let known = rw (c.deref.ensures.value, c.as_bytes.ensures) at (sym c.has_state.ensures ∙ c.if-has_state.true) in
    is_plan _ _ (AnaSet c.args.port c.args.subsystem.now c.args.group c.args.state) c.new-then-has_state.result (ReplaceState c.args.port c.args.subsystem c.args.group c.args.state) c.self.view_is c.requires c.new-then-has_state.ensures (with_ana_state-known _ c.args.port c.args.subsystem.now c.args.group c.args.state some known) tt c.self.invariant

pub overflow_cast-set : goal.overflow_cast-set
overflow_cast-set c =
    let small : c.args.port ≤ 65535 = (state_numbers _ _ c.args.port c.args.subsystem.now c.args.group c.args.state c.self.view_is c.requires c.self.invariant).0 in
    omega arith

pub returns : goal.returns
returns c =
    let some = sym c.is_optimized.ensures ∙ c.if-is_optimized.false in
    let absent = rw (c.deref.ensures.value, c.as_bytes.ensures) at (sym c.has_state.ensures ∙ c.if-has_state.false) in
    is_plan _ _ (AnaSet c.args.port c.args.subsystem.now c.args.group c.args.state) c.new-3.result (AddState c.in_ok-addition.addition) c.self.view_is c.requires c.new-3.ensures (rw (c.in_ok-addition.ensures.same, c.in_ok-try_clone.ensures) (with_ana_state-new _ c.args.port c.args.subsystem.now c.args.group c.args.state some absent)) (omega (arith, c.in_ok-addition.ensures.room)) c.self.invariant
