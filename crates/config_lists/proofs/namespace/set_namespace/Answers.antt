use Rattle.std.proofs.Common.{◌≡◌, get_or, slice_set, ap, sym, ◌∙◌}
use Rattle.config_lists.specs.Namespace.{is_named, with_setting}
use Rattle.config_lists.proofs.Lists.{changed_where_more, changed_where_past}
use Rattle.config_lists.proofs.namespace.set_namespace.Goals as goal
use Rattle.config_lists.proofs.namespace.set_namespace.Goals.{then-has_name, else-has_name}

pub loop-namespace-preserved : goal.loop-namespace-preserved
loop-namespace-preserved c =
    let named = is_named c.args.subsystem.now c.args.nsid in
    let set = with_setting c.args.value in
    let xs = c.args.namespaces.now in
    let i = c.loop-namespace.namespace-index in
    let x = c.namespace-item.result in
    let tested : named x ≡ c.has_name.result = ap named c.namespace-item.is ∙ ap (λ s. is_named s c.args.nsid (get_or c.loop-namespace.namespaces i x)) (sym c.as_bytes.ensures) ∙ sym c.has_name.ensures in
    elim c.if-has_name.branch [
      | then-has_name w ↦ w.namespaces-is ∙ ap (λ y. slice_set c.loop-namespace.namespaces i y) (w.set.ensures ∙ ap set (sym c.namespace-item.is)) ∙ changed_where_more named set xs c.loop-namespace.namespaces i x c.loop-namespace-test.true c.loop-namespace.invariant c.namespace-item.is (tested ∙ w.if-has_name.true)
      | else-has_name w ↦ w.namespaces-is ∙ ap (λ y. slice_set c.loop-namespace.namespaces i y) (sym c.namespace-item.is) ∙ changed_where_past named set xs c.loop-namespace.namespaces i x c.loop-namespace-test.true c.loop-namespace.invariant c.namespace-item.is (tested ∙ w.if-has_name.false)
    ]
