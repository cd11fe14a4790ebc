use Rattle.std.proofs.Common.{◌≡◌, Bool, slice_set, ap, sym, ◌∙◌}
use Rattle.std.specs.Str.{bytes_eq}
use Rattle.config_lists.specs.declared.host.Host.{Host}
use Rattle.config_lists.proofs.Lists.{changed_where_more, changed_where_past}
use Rattle.config_lists.proofs.host.set_live.Goals as goal
use Rattle.config_lists.proofs.host.set_live.Goals.{then-eq, else-eq}

pub loop-host-preserved : goal.loop-host-preserved
loop-host-preserved c =
    let named : Host → Bool = λ host. bytes_eq host.nqn c.args.nqn.now in
    let set : Host → Host = λ host. record host { live = c.args.live } in
    let xs = c.args.hosts.now in
    let i = c.loop-host.host-index in
    let x = c.host-item.result in
    let tested : named x ≡ c.eq.result = ap named c.host-item.is ∙ sym c.eq.ensures in
    elim c.if-eq.branch [
      | then-eq w ↦ w.hosts-is ∙ ap (λ y. slice_set c.loop-host.hosts i (set y)) (sym c.host-item.is) ∙ changed_where_more named set xs c.loop-host.hosts i x c.loop-host-test.true c.loop-host.invariant c.host-item.is (tested ∙ w.if-eq.true)
      | else-eq w ↦ w.hosts-is ∙ ap (λ y. slice_set c.loop-host.hosts i y) (sym c.host-item.is) ∙ changed_where_past named set xs c.loop-host.hosts i x c.loop-host-test.true c.loop-host.invariant c.host-item.is (tested ∙ w.if-eq.false)
    ]
