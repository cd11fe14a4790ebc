use Rattle.target_core.proofs.Knowing.{marks_stay, stepped_known}
use Rattle.target_core.proofs.Steps.{ended_steps, one_steps, steps_more}
use Rattle.nvt_replay.proofs.connections.Connections.step_one.Goals as goal

pub loop-smaller-in-One-1 : goal.loop-smaller-in-One-1
loop-smaller-in-One-1 c = (one_steps c.args.k c.loop.self-inside.target c.step.new.self (rw c.in-Ok-One.field-0-is at c.in-Ok-One.ensures.steps)).less

pub loop-preserved-in-One-1 : goal.loop-preserved-in-One-1
loop-preserved-in-One-1 c =
    let step = one_steps c.args.k c.loop.self-inside.target c.step.new.self (rw c.in-Ok-One.field-0-is at c.in-Ok-One.ensures.steps) in
    record {
      marks = marks_stay c.loop.self-inside.target c.step.new.self c.loop.self-inside.marks
          (stepped_known c.loop.self-inside.target c.step.new.self c.args.k _ _ step.step.transition) c.loop.invariant.marks;
      behind = λ last more. c.loop.invariant.behind last (steps_more c.args.k c.loop.self-inside.target c.step.new.self last step.step more);
    }

pub loop-smaller : goal.loop-smaller
loop-smaller c = (ended_steps c.args.k c.loop.self-inside.target c.step.new.self (rw c.in-Ok-Ended.field-0-is at c.in-Ok-Ended.ensures.steps)).less

pub loop-preserved : goal.loop-preserved
loop-preserved c =
    let step = ended_steps c.args.k c.loop.self-inside.target c.step.new.self (rw c.in-Ok-Ended.field-0-is at c.in-Ok-Ended.ensures.steps) in
    record {
      marks = marks_stay c.loop.self-inside.target c.step.new.self c.loop.self-inside.marks
          (stepped_known c.loop.self-inside.target c.step.new.self c.args.k _ _ step.step.transition) c.loop.invariant.marks;
      behind = λ last more. c.loop.invariant.behind last (steps_more c.args.k c.loop.self-inside.target c.step.new.self last step.step more);
    }
