use Rattle.nvt_serve.proofs.Lasting.{lasts_on, lasts_stepped}
use Rattle.nvt_serve.proofs.Quiet.{out_idle, quiet_beside}
use Rattle.nvt_serve.proofs.Runs.{steps_go, steps_go_on}
use Rattle.target_core.proofs.Knowing.{known_on, stepped_known}
use Rattle.target_core.proofs.Steps.{ended_steps, one_steps}
use Rattle.nvt_serve.proofs.stepping.step_out.Goals as goal

pub loop-target-smaller-in-Ok-One : goal.loop-target-smaller-in-Ok-One
loop-target-smaller-in-Ok-One g c =
    (one_steps c.args.k c.loop-target.target c.step.new.self (rw c.in-Ok-One.field-0-is at c.in-Ok-One.ensures.steps)).less

pub loop-target-preserved-in-Ok-One : goal.loop-target-preserved-in-Ok-One
loop-target-preserved-in-Ok-One g c =
    let first = c.args.target.now in
    let old = c.loop-target.target in
    let new = c.step.new.self in
    let step = (one_steps c.args.k old new (rw c.in-Ok-One.field-0-is at c.in-Ok-One.ensures.steps)).step in
    record {
      goes = steps_go_on first old new c.loop-target.invariant.goes (steps_go c.args.k old new step);
      known = known_on first old new c.loop-target.invariant.known (stepped_known old new c.args.k _ _ step.transition);
      others = λ j differs quiet. quiet_beside old new c.args.k j step differs (c.loop-target.invariant.others j differs quiet);
      lasts = λ j differs.
          lasts_on first old new j (c.loop-target.invariant.lasts j differs) (lasts_stepped old new c.args.k _ _ step.transition j differs);
    }

pub loop-target-smaller : goal.loop-target-smaller
loop-target-smaller g c =
    (ended_steps c.args.k c.loop-target.target c.step.new.self (rw c.in-Ok-Ended.field-0-is at c.in-Ok-Ended.ensures.steps)).less

pub loop-target-preserved : goal.loop-target-preserved
loop-target-preserved g c =
    let first = c.args.target.now in
    let old = c.loop-target.target in
    let new = c.step.new.self in
    let step = (ended_steps c.args.k old new (rw c.in-Ok-Ended.field-0-is at c.in-Ok-Ended.ensures.steps)).step in
    record {
      goes = steps_go_on first old new c.loop-target.invariant.goes (steps_go c.args.k old new step);
      known = known_on first old new c.loop-target.invariant.known (stepped_known old new c.args.k _ _ step.transition);
      others = λ j differs quiet. quiet_beside old new c.args.k j step differs (c.loop-target.invariant.others j differs quiet);
      lasts = λ j differs.
          lasts_on first old new j (c.loop-target.invariant.lasts j differs) (lasts_stepped old new c.args.k _ _ step.transition j differs);
    }

pub returns-in-Ok-Idle : goal.returns-in-Ok-Idle
returns-in-Ok-Idle g c =
    out_idle c.args.k c.args.target.now c.loop-target.target c.step.new.self (rw c.in-Ok-Idle.field-0-is at c.in-Ok-Idle.ensures.steps)
    c.loop-target.invariant.goes c.loop-target.invariant.known c.loop-target.invariant.others c.loop-target.invariant.lasts
