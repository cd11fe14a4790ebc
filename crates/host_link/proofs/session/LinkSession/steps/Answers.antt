use Rattle.std.proofs.Common.{Ok, Err, refl, arith}
use Rattle.std.proofs.lemmas.Result.{err_from_is_err_and}
use Rattle.host_driver.specs.declared.answer.HostStep.TheVariants as step
use Rattle.host_link.proofs.Turning.{steps_end, telling, tells_more}
use Rattle.host_link.proofs.session.LinkSession.steps.Goals as goal

pub returns-in_err-step : goal.returns-in_err-step
returns-in_err-step g c =
    let p = err_from_is_err_and c.from_residual.result c.from_residual.ensures.1 in
    rw (p.1, p.2) (steps_end (Err _) _ _ _ c.loop.counter c.loop.told _ c.loop.invariant c.in_err-step.ensures refl (omega (arith, c.loop-test.true)) refl)

pub returns-in-Idle : goal.returns-in-Idle
returns-in-Idle g c =
    steps_end (Ok step.Idle) _ _ _ c.loop.counter c.loop.told _ c.loop.invariant (rw c.in-Idle.is at c.in_ok-step.ensures) refl (omega (arith, c.loop-test.true)) refl

pub loop-preserved : goal.loop-preserved
loop-preserved g c =
    tells_more c.in_ok-step.step _ _ _ c.loop.counter _ c.loop.told c.loop.invariant c.in_ok-step.ensures (telling c.in_ok-step.step c.in_default.not-Idle) refl
