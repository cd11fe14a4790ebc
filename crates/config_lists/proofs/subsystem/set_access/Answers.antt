use Rattle.std.proofs.Common.{◌≡◌, Bool, slice_set, ap, sym, ◌∙◌}
use Rattle.std.specs.Str.{bytes_eq}
use Rattle.config_lists.specs.declared.subsystem.Subsystem.{Subsystem}
use Rattle.config_lists.proofs.Lists.{changed_where_more, changed_where_past}
use Rattle.config_lists.proofs.subsystem.set_access.Goals as goal
use Rattle.config_lists.proofs.subsystem.set_access.Goals.{then-eq, else-eq}

pub loop-subsystem-preserved : goal.loop-subsystem-preserved
loop-subsystem-preserved c =
    let named : Subsystem → Bool = λ subsystem. bytes_eq subsystem.nqn c.args.nqn.now in
    let set : Subsystem → Subsystem = λ subsystem. record subsystem { access = c.args.access } in
    let xs = c.args.subsystems.now in
    let i = c.loop-subsystem.subsystem-index in
    let x = c.subsystem-item.result in
    let tested : named x ≡ c.eq.result = ap named c.subsystem-item.is ∙ sym c.eq.ensures in
    elim c.if-eq.branch [
      | then-eq w ↦ w.subsystems-is ∙ ap (λ y. slice_set c.loop-subsystem.subsystems i (set y)) (sym c.subsystem-item.is) ∙ changed_where_more named set xs c.loop-subsystem.subsystems i x c.loop-subsystem-test.true c.loop-subsystem.invariant c.subsystem-item.is (tested ∙ w.if-eq.true)
      | else-eq w ↦ w.subsystems-is ∙ ap (λ y. slice_set c.loop-subsystem.subsystems i y) (sym c.subsystem-item.is) ∙ changed_where_past named set xs c.loop-subsystem.subsystems i x c.loop-subsystem-test.true c.loop-subsystem.invariant c.subsystem-item.is (tested ∙ w.if-eq.false)
    ]
