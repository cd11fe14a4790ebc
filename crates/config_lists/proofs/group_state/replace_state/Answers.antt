use Rattle.std.proofs.Common.{◌≡◌, slice_set, ap, sym, ◌∙◌}
use Rattle.config_lists.specs.GroupState.{is_state_for, with_state}
use Rattle.config_lists.proofs.Lists.{changed_where_more, changed_where_past}
use Rattle.config_lists.proofs.group_state.replace_state.Goals as goal
use Rattle.config_lists.proofs.group_state.replace_state.Goals.{then-is_for, else-is_for}

pub loop-old-preserved : goal.loop-old-preserved
loop-old-preserved c =
    let named = is_state_for c.args.port c.args.subsystem.now c.args.group in
    let set = with_state c.args.state in
    let xs = c.args.states.now in
    let i = c.loop-old.old-index in
    let x = c.old-item.result in
    let tested : named x ≡ c.is_for.result = ap named c.old-item.is ∙ sym c.is_for.ensures in
    elim c.if-is_for.branch [
      | then-is_for w ↦ w.states-is ∙ ap (λ y. slice_set c.loop-old.states i (set y)) (sym c.old-item.is) ∙ changed_where_more named set xs c.loop-old.states i x c.loop-old-test.true c.loop-old.invariant c.old-item.is (tested ∙ w.if-is_for.true)
      | else-is_for w ↦ w.states-is ∙ ap (λ y. slice_set c.loop-old.states i y) (sym c.old-item.is) ∙ changed_where_past named set xs c.loop-old.states i x c.loop-old-test.true c.loop-old.invariant c.old-item.is (tested ∙ w.if-is_for.false)
    ]
