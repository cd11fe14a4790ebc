use Rattle.std.proofs.Common.{◌≡◌, ◌∙◌, Some, refl, ap, sym, arith}
use Rattle.std.specs.Option.{option_copied}
use Rattle.target_state.proofs.Changing.{can_follow}
use Rattle.target_core.proofs.Stepping.{acted_known, acts_known, carried_known, step_agrees, step_done, step_is_target}
use Rattle.target_core.proofs.target.Target.step.Goals as goal

pub invariant_of-self-2 : goal.invariant_of-self-2
invariant_of-self-2 g c =
    let there : c.get.result ≡ Some c.in_ok-stream.stream = grind arith in
    let stream = sym c.get.ensures ∙ ap option_copied there in
    let also : c.get-2.result ≡ Some c.in_ok-connection.connection = grind arith in
    let known = sym c.get-2.ensures ∙ ap option_copied also in
    let acts = acts_known _ _ _ _ _ _ _ _ _ _ _ known c.in_ok-act.ensures.acts in
    record {
      tables = rw (acted_known _ _ _ _ _ _ stream c.consume.ensures, c.settle.ensures.connections, acts.placed)
          (step_is_target _ _ _ _ _ _ _ _ c.self.invariant.tables stream known);
      units = c.self.invariant.units ∙ sym acts.acts.sizes;
      shows = c.self.invariant.shows;
    }

pub returns-clause-steps : goal.returns-clause-steps
returns-clause-steps g c =
    let there : c.get.result ≡ Some c.in_ok-stream.stream = grind arith in
    let stream = sym c.get.ensures ∙ ap option_copied there in
    let also : c.get-2.result ≡ Some c.in_ok-connection.connection = grind arith in
    let known = sym c.get-2.ensures ∙ ap option_copied also in
    let lasts = sym c.is_ended.ensures ∙ c.if-is_ended.false in
    let complete = sym c.is_incomplete.ensures ∙ c.if-is_incomplete.false in
    rw (← c.self.view_is, stream, known)
    (step_done _ _ _ _ _ _ _ _ _ _ _ _ stream known lasts c.peek-front.ensures.front complete
    (rw (c.world-world.ensures, c.pages-pages.ensures, c.state-before.ensures) at c.decide-decision.ensures.decision)
    (rw c.state-before.ensures at c.of_decision.ensures) c.consequence_of.ensures (rw c.state-before.ensures at c.in_ok-row.ensures)
    refl refl refl refl
    (acts_known _ _ _ _ _ _ _ _ _ _ _ known (rw (c.world-world.ensures, c.pages-pages.ensures) at c.in_ok-act.ensures.acts)) c.settle.ensures.connections
    (rw c.consumed_of-len.ensures at (acted_known _ _ _ _ _ _ stream c.consume.ensures))
    (λ n. rw (c.settle.ensures.rows n, c.settle.ensures.own n) at (c.change.ensures.rows n))
    (λ n. rw (c.settle.ensures.own n) at (c.change.ensures.own n))
    c.act.new.transfers (carried_known _ _ _ _ known c.in_ok-act.ensures.parts) c.settle.ensures.parts c.stepped.ensures)

pub returns-clause-agrees : goal.returns-clause-agrees
returns-clause-agrees g c =
    let there : c.get.result ≡ Some c.in_ok-stream.stream = grind arith in
    let stream = sym c.get.ensures ∙ ap option_copied there in
    let also : c.get-2.result ≡ Some c.in_ok-connection.connection = grind arith in
    let known = sym c.get-2.ensures ∙ ap option_copied also in
    let lasts = sym c.is_ended.ensures ∙ c.if-is_ended.false in
    let complete = sym c.is_incomplete.ensures ∙ c.if-is_incomplete.false in
    rw (← c.self.view_is)
    (step_agrees _ _ _ _ _ _ _ _ _ _ _ _ stream known lasts c.peek-front.ensures.front complete
    (rw (c.world-world.ensures, c.pages-pages.ensures, c.state-before.ensures) at c.decide-decision.ensures.decision)
    (rw c.state-before.ensures at c.of_decision.ensures) c.consequence_of.ensures (rw c.state-before.ensures at c.in_ok-row.ensures)
    refl refl refl refl
    (acts_known _ _ _ _ _ _ _ _ _ _ _ known (rw (c.world-world.ensures, c.pages-pages.ensures) at c.in_ok-act.ensures.acts)) c.settle.ensures.connections
    (rw c.consumed_of-len.ensures at (acted_known _ _ _ _ _ _ stream c.consume.ensures))
    (λ n. rw (c.settle.ensures.rows n, c.settle.ensures.own n) at (c.change.ensures.rows n))
    (λ n. rw (c.settle.ensures.own n) at (c.change.ensures.own n))
    c.act.new.transfers (carried_known _ _ _ _ known c.in_ok-act.ensures.parts) c.settle.ensures.parts c.stepped.ensures)

pub change-requires : goal.change-requires
change-requires g c =
    can_follow _ _ _ _ _ _ _ _ _ c.consequence_of.ensures c.in_ok-row.ensures
    (rw c.world-world.ensures at c.decide-decision.ensures.begins) c.settle.ensures.rows
