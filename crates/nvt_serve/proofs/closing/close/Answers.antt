use Rattle.nvt_serve.proofs.Doing.{closed_follows, forgotten_follows}
use Rattle.nvt_serve.proofs.closing.close.Goals as goal

pub returns-in-Some-clause-ties : goal.returns-in-Some-clause-ties
returns-in-Some-clause-ties g c =
    (closed_follows (g.P.Ports.state c.args.ports.now) (g.P.Ports.state c.close.new.self) c.args.target.now c.end.new.self c.args.ties.now
    c.untie.new.self c.in-Some.slot c.args.k c.in-Some.ensures.slot c.requires.ended c.requires.output
    c.close.ensures.told c.close.ensures.in_use c.close.ensures.faults c.end.ensures.transition c.untie.ensures
    c.requires.ties).ties

pub returns-in-Some-clause-goes : goal.returns-in-Some-clause-goes
returns-in-Some-clause-goes g c =
    (closed_follows (g.P.Ports.state c.args.ports.now) (g.P.Ports.state c.close.new.self) c.args.target.now c.end.new.self c.args.ties.now
    c.untie.new.self c.in-Some.slot c.args.k c.in-Some.ensures.slot c.requires.ended c.requires.output
    c.close.ensures.told c.close.ensures.in_use c.close.ensures.faults c.end.ensures.transition c.untie.ensures
    c.requires.ties).goes

pub returns-in-None-clause-ties : goal.returns-in-None-clause-ties
returns-in-None-clause-ties g c =
    (forgotten_follows (g.P.Ports.state c.args.ports.now) c.args.target.now c.end.new.self c.args.ties.now c.forget.new.self c.args.k
    c.in-None.ensures.slot c.requires.ended c.requires.output c.end.ensures.transition c.forget.ensures
    c.requires.ties).ties

pub returns-in-None-clause-goes : goal.returns-in-None-clause-goes
returns-in-None-clause-goes g c =
    (forgotten_follows (g.P.Ports.state c.args.ports.now) c.args.target.now c.end.new.self c.args.ties.now c.forget.new.self c.args.k
    c.in-None.ensures.slot c.requires.ended c.requires.output c.end.ensures.transition c.forget.ensures
    c.requires.ties).goes
