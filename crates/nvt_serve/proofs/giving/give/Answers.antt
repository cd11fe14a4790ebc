use Rattle.nvt_serve.proofs.Doing.{failed_follows, sent_follows}
use Rattle.nvt_serve.proofs.giving.give.Goals as goal

pub returns-in-Ok-clause-ties : goal.returns-in-Ok-clause-ties
returns-in-Ok-clause-ties g c =
    (sent_follows (g.P.Ports.state c.args.ports.now) (g.P.Ports.state c.give.new.self) c.args.target.now c.taken.new.self c.args.ties.now
    c.args.slot c.args.k c.in-Ok.n c.output-output.result.now c.requires.tied c.output-output.ensures c.in-Ok.ensures.taken c.in-Ok.ensures.told
    c.in-Ok.ensures.in_use c.in-Ok.ensures.faults c.taken.ensures.taken c.requires.ties).ties

pub returns-in-Ok-clause-goes : goal.returns-in-Ok-clause-goes
returns-in-Ok-clause-goes g c =
    (sent_follows (g.P.Ports.state c.args.ports.now) (g.P.Ports.state c.give.new.self) c.args.target.now c.taken.new.self c.args.ties.now
    c.args.slot c.args.k c.in-Ok.n c.output-output.result.now c.requires.tied c.output-output.ensures c.in-Ok.ensures.taken c.in-Ok.ensures.told
    c.in-Ok.ensures.in_use c.in-Ok.ensures.faults c.taken.ensures.taken c.requires.ties).goes

pub returns-in-Err-clause-ties : goal.returns-in-Err-clause-ties
returns-in-Err-clause-ties g c =
    (failed_follows (g.P.Ports.state c.args.ports.now) (g.P.Ports.state c.give.new.self) (g.P.Ports.state c.close.new.self)
    c.args.target.now c.end.new.self c.args.ties.now c.untie.new.self c.args.slot c.args.k c.requires.tied
    c.in-Err.ensures.told c.in-Err.ensures.in_use c.in-Err.ensures.faults c.close.ensures.told c.close.ensures.in_use c.close.ensures.faults
    c.end.ensures.transition c.untie.ensures c.requires.ties).ties

pub returns-in-Err-clause-goes : goal.returns-in-Err-clause-goes
returns-in-Err-clause-goes g c =
    (failed_follows (g.P.Ports.state c.args.ports.now) (g.P.Ports.state c.give.new.self) (g.P.Ports.state c.close.new.self)
    c.args.target.now c.end.new.self c.args.ties.now c.untie.new.self c.args.slot c.args.k c.requires.tied
    c.in-Err.ensures.told c.in-Err.ensures.in_use c.in-Err.ensures.faults c.close.ensures.told c.close.ensures.in_use c.close.ensures.faults
    c.end.ensures.transition c.untie.ensures c.requires.ties).goes
