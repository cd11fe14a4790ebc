use Rattle.std.proofs.Common.{Ok, Err, refl, ap, sym, ◌∙◌}
use Rattle.std.proofs.lemmas.Result.{err_from_is_err_and}
use Rattle.host_link.specs.Session.{request_by}
use Rattle.host_link.specs.Waiting.{is_asked}
use Rattle.host_link.proofs.Waited.{requests_told, waits_on}
use Rattle.host_link.proofs.session.LinkSession.request.Goals as goal

pub returns-in_err-step-clause-does : goal.returns-in_err-step-clause-does
returns-in_err-step-clause-does g c =
    let p = err_from_is_err_and c.from_residual.result c.from_residual.ensures.1 in
    rw (p.1, p.2) (requests_told (Err c.in_err-step.field-0.0) _ c.args.self.now c.loop-self.self c.turn.new.self c.loop-self.invariant c.in_err-step.ensures.does refl)

pub returns-in_err-answered-clause-does : goal.returns-in_err-answered-clause-does
returns-in_err-answered-clause-does g c =
    let r = c.from_residual-in_err-answered in
    let p = err_from_is_err_and r.result r.ensures.1 in
    rw (p.1, p.2) (requests_told (Ok c.in-Some.step) _ c.args.self.now c.loop-self.self c.turn.new.self c.loop-self.invariant
    (rw c.in-Some.is at c.in_ok-step.ensures.does) (ap request_by (sym c.in_err-answered.was ∙ c.answered.ensures.value)))

pub returns-in-Some-clause-does : goal.returns-in-Some-clause-does
returns-in-Some-clause-does g c =
    requests_told (Ok c.in-Some.step) _ c.args.self.now c.loop-self.self c.turn.new.self c.loop-self.invariant
    (rw c.in-Some.is at c.in_ok-step.ensures.does) (ap request_by (sym c.in_ok-answered.was ∙ c.answered.ensures.value))

pub loop-self-preserved : goal.loop-self-preserved
loop-self-preserved g c =
    waits_on is_asked c.args.self.now c.loop-self.self c.turn.new.self c.loop-self.invariant (rw c.in_default.is at c.in_ok-step.ensures.does)
    (sym c.is_asked.ensures ∙ c.if-is_asked.false)
