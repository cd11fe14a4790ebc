use Rattle.std.proofs.Common.{◌≡◌, ◌+◌, ◌-◌, ◌*◌, length, ap, sym, subst, ◌∙◌, arith}
use Rattle.nvt_ports.specs.declared.turn_order.LookOutcome.TheVariants.{Vain}
use Rattle.nvt_ports.specs.Lately.{Order, after_look, behind, due, tired, tried_in_round}
use Rattle.nvt_ports.specs.Waiting.{IsInOrder}
use Rattle.nvt_ports.proofs.Plans.{length-plan, same_order}
use Rattle.nvt_ports.proofs.Waits.{after_in_order}
use Rattle.nvt_ports.proofs.turn_order.TurnOrder.in_vain.Goals as goal
use Rattle.nvt_ports.proofs.turn_order.TurnOrder.in_vain.Goals.{After-behind-self-inside}

pub overflow_sub-tried : goal.overflow_sub-tried
overflow_sub-tried c = omega (arith, c.requires, length-plan c.args.self.now, c.due-due.ensures.due)

pub tire-requires : goal.tire-requires
tire-requires c =
    omega (arith, c.requires, length-plan c.args.self.now, c.due-due.ensures.due, ap (λ (o : Order). length o.lately) c.self.view_is)

left : (c : After-behind-self-inside) → IsInOrder c.args.self.now × (record { lately = c.tire.new.list.items; last = c.behind-self-inside.result; credit = c.self.inside.credit + 1 - 4 * c.due-due.result } ≡ after_look c.args.tried Vain c.args.self.now)
left c =
    let o = c.args.self.now in
    let in_round : c.due-due.result ≡ tried_in_round c.args.tried o = omega (arith, c.requires, length-plan o, c.due-due.ensures.due) in (
      subst IsInOrder c.self.view_is c.self.invariant.1,
      same_order _ _ _ _ _ _
          (c.tire.ensures.items ∙ ap (λ n. tired (c.args.tried - n) c.self.inside.lately.items) c.due-due.ensures.due ∙ ap (λ (p : Order). tired (c.args.tried - due o) p.lately) c.self.view_is)
          (c.behind-self-inside.ensures ∙ ap (behind c.self.inside.last) in_round ∙ ap (λ (p : Order). behind p.last (tried_in_round c.args.tried o)) c.self.view_is)
          (ap (λ n. c.self.inside.credit + 1 - 4 * n) in_round ∙ ap (λ (p : Order). p.credit + 1 - 4 * tried_in_round c.args.tried o) c.self.view_is),
    )

pub invariant_of-self : goal.invariant_of-self
invariant_of-self c =
    let now = left (goal.at.invariant_of-self c).After-behind-self-inside in
    (omega (arith, c.self.invariant.0, c.tire.ensures.capacity), subst IsInOrder (sym now.1) (after_in_order c.args.tried Vain c.args.self.now now.0 c.requires))

pub returns-clause-after : goal.returns-clause-after
returns-clause-after c = (left (goal.at.returns-clause-after c).After-behind-self-inside).1
