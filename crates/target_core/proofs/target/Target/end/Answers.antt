use Rattle.std.proofs.Common.{refl, ap, sym, ◌∙◌}
use Rattle.std.specs.Option.{option_copied}
use Rattle.target_core.proofs.Agreements.{transition_agrees}
use Rattle.target_core.proofs.Moving.{end_moves}
use Rattle.target_core.proofs.target.Target.end.Goals as goal

pub returns-clause-transition : goal.returns-clause-transition
returns-clause-transition g c =
    let known = sym c.get.ensures ∙ ap option_copied c.in-Some.is in
    rw (← c.self.view_is, known)
    (end_moves _ _ c.args.k _ _ known (rw c.state.ensures at c.of_loss-cause.ensures) refl refl refl refl
    c.remove.ensures.emptied (rw c.settle.ensures.connections at c.remove-2.ensures.emptied) c.settle.ensures.rows c.settle.ensures.own
    c.settle.new.transfers c.settle.ensures.parts c.drop_queue.ensures refl)

pub returns-clause-agrees : goal.returns-clause-agrees
returns-clause-agrees g c =
    let known = sym c.get.ensures ∙ ap option_copied c.in-Some.is in
    rw (← c.self.view_is, known) (transition_agrees _ _ _
    (end_moves _ _ c.args.k _ _ known (rw c.state.ensures at c.of_loss-cause.ensures) refl refl refl refl
    c.remove.ensures.emptied (rw c.settle.ensures.connections at c.remove-2.ensures.emptied) c.settle.ensures.rows c.settle.ensures.own
    c.settle.new.transfers c.settle.ensures.parts c.drop_queue.ensures refl))
