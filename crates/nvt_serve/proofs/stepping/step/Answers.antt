use Rattle.tables.specs.NumberTable.{place}
use Rattle.target_core.specs.Target.{output_at}
use Rattle.nvt_serve.proofs.Looking.{looks_rest, looks_stepped, output_none, rests_quiet}
use Rattle.nvt_serve.proofs.stepping.step.Goals as goal

pub returns-then-is_empty-clause-looks : goal.returns-then-is_empty-clause-looks
returns-then-is_empty-clause-looks g c =
    let new = c.step_out-wants.new.target in
    looks_rest new c.args.k c.stepped.new.self c.rests.new.self c.rests.ensures
    (rests_quiet new c.args.k (c.step_out-wants.ensures.quiet c.if-not-wants.true)
    (output_none c.output-then-not-wants.result.now (output_at (place new.connections c.args.k)) c.is_empty-then-not-wants.result
    c.output-then-not-wants.ensures c.is_empty-then-not-wants.ensures c.if-is_empty.true))
    (looks_stepped c.args.target.now new c.args.k c.room.result c.step_out-wants.result c.args.ties.now c.stepped.new.self c.step_out-wants.ensures
    c.stepped.ensures c.room.ensures c.requires.alone c.requires.ready c.requires.looks)

pub returns-else-not-wants-clause-looks : goal.returns-else-not-wants-clause-looks
returns-else-not-wants-clause-looks g c =
    looks_stepped c.args.target.now c.step_out-wants.new.target c.args.k c.room.result c.step_out-wants.result c.args.ties.now c.stepped.new.self
    c.step_out-wants.ensures c.stepped.ensures c.room.ensures c.requires.alone c.requires.ready c.requires.looks
