use Rattle.std.proofs.Common.{◌∙◌}
use Rattle.nvt_serve.proofs.Quiet.{quiet_all, quiet_more}
use Rattle.nvt_serve.proofs.Runs.{steps_go_on}
use Rattle.target_core.proofs.Knowing.{known_on}
use Rattle.nvt_serve.proofs.stepping.step_all.Goals as goal

pub loop-k-preserved : goal.loop-k-preserved
loop-k-preserved g c =
    let first = c.args.target.now in
    let old = c.loop-k.target in
    let new = c.step-wants.new.target in
    record {
      goes = steps_go_on first old new c.loop-k.invariant.goes c.step-wants.ensures.steps.goes;
      known = known_on first old new c.loop-k.invariant.known c.step-wants.ensures.steps.known;
      connections = c.step-wants.ensures.connections ∙ c.loop-k.invariant.connections;
      looks = c.step-wants.ensures.looks;
      quiet = quiet_more c.loop-k.least c.in-Some.k old new c.step-wants.result c.loop-k.memory c.from.result _ c.loop-k.ties.ready.bits
          c.step-wants.ensures.steps c.from.ensures c.saturating_add-memory.ensures c.in-Some.ensures c.loop-k.invariant.looks.ready
          c.loop-k.invariant.quiet;
    }

pub returns-clause-quiet : goal.returns-clause-quiet
returns-clause-quiet g c = λ none.
    quiet_all c.loop-k.least c.loop-k.ties.ready.bits c.loop-k.target c.in_default.ensures c.loop-k.invariant.looks.ready (c.loop-k.invariant.quiet none)
