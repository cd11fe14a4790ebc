use Rattle.std.proofs.Common.{◌≡◌, ◌+◌, ◌-◌, ◌*◌, length, min, ap, sym, subst, ◌∙◌, arith}
use Rattle.std.proofs.lemmas.Option.{get_or_from_slice_get}
use Rattle.nvt_ports.specs.declared.turn_order.LookOutcome.TheVariants.{Found}
use Rattle.nvt_ports.specs.Lately.{Order, after_look, behind, due, last_tried, plan, tired, tried_in_round, with_heard}
use Rattle.nvt_ports.specs.Waiting.{IsInOrder}
use Rattle.nvt_ports.proofs.Plans.{length-plan, same_order}
use Rattle.nvt_ports.proofs.Waits.{after_in_order}
use Rattle.nvt_ports.proofs.turn_order.TurnOrder.found.Goals as goal
use Rattle.nvt_ports.proofs.turn_order.TurnOrder.found.Goals.{After-behind-self-inside}

pub tire-requires : goal.tire-requires
tire-requires c =
    omega (
      arith,
      c.requires.1,
      length-plan c.args.self.now,
      c.due-due.ensures.due,
      ap (λ (o : Order). length o.lately) c.self.view_is,
    )

left : (c : After-behind-self-inside) → IsInOrder c.args.self.now × (record { lately = c.hear.new.list.items; last = c.behind-self-inside.result; credit = c.self.inside.credit + 1 - 4 * c.min-tried_in_round.result } ≡ after_look c.args.tried Found c.args.self.now)
left c =
    let o = c.args.self.now in
    let number : c.unwrap-number.result ≡ last_tried c.args.tried o =
    sym (get_or_from_slice_get (plan o) (c.args.tried - 1) c.unwrap-number.result 0 (sym c.number_at.ensures ∙ c.unwrap-number.ensures))
    in
    let vain : c.saturating_sub.result ≡ c.args.tried - 1 - due o = c.saturating_sub.ensures ∙ ap (λ n. c.args.tried - 1 - n) c.due-due.ensures.due in
    let in_round : c.min-tried_in_round.result ≡ tried_in_round c.args.tried o = c.min-tried_in_round.ensures ∙ ap (λ n. min c.args.tried n) c.due-due.ensures.due in
    let list : c.tire.new.list.items ≡ tired (c.args.tried - 1 - due o) o.lately =
    c.tire.ensures.items ∙ ap (λ n. tired n c.self.inside.lately.items) vain ∙ ap (λ (p : Order). tired (c.args.tried - 1 - due o) p.lately) c.self.view_is
    in (
      subst IsInOrder c.self.view_is c.self.invariant.1,
      same_order _ _ _ _ _ _
          (c.hear.ensures.items ∙ ap (λ n. with_heard n c.tire.new.list.items) number ∙ ap (with_heard (last_tried c.args.tried o)) list)
          (c.behind-self-inside.ensures ∙ ap (behind c.self.inside.last) in_round ∙ ap (λ (p : Order). behind p.last (tried_in_round c.args.tried o)) c.self.view_is)
          (ap (λ n. c.self.inside.credit + 1 - 4 * n) in_round ∙ ap (λ (p : Order). p.credit + 1 - 4 * tried_in_round c.args.tried o) c.self.view_is),
    )

pub invariant_of-self : goal.invariant_of-self
invariant_of-self c =
    let now = left (goal.at.invariant_of-self c).After-behind-self-inside in
    (c.hear.ensures.capacity, subst IsInOrder (sym now.1) (after_in_order c.args.tried Found c.args.self.now now.0 c.requires))

pub returns-clause-after : goal.returns-clause-after
returns-clause-after c = (left (goal.at.returns-clause-after c).After-behind-self-inside).1
