use Rattle.std.proofs.Common.{◌+◌, ◌-◌, Some, map, ap, sym, ◌∙◌, arith}
use Rattle.std.specs.Prelude.{slice_get}
use Rattle.std.proofs.lemmas.Option.{slice_get-map}
use Rattle.nvt_ports.specs.Lately.{Order, behind, number_in}
use Rattle.nvt_ports.proofs.Plans.{plan_of_lately, plan_of_round}
use Rattle.nvt_ports.proofs.turn_order.TurnOrder.number_at.Goals as goal

pub returns-then-place-due : goal.returns-then-place-due
returns-then-place-due c =
    ap Some (c.behind.ensures ∙ ap (λ (o : Order). behind o.last (c.args.place + 1)) c.self.view_is)
    ∙ sym (plan_of_round c.args.self.now c.args.place (omega (arith, c.due-due.ensures.due)))

pub returns : goal.returns
returns c =
    let numbers = map number_in c.args.self.now.lately in
    c.number_lately.ensures ∙ sym (slice_get-map number_in c.args.self.now.lately (c.args.place - c.due-due.result))
    ∙ ap (λ n. slice_get numbers (c.args.place - n)) c.due-due.ensures.due
    ∙ sym (plan_of_lately c.args.self.now c.args.place (omega (arith, c.due-due.ensures.due)))
