use Rattle.nvt_replay.proofs.Faulting.{at_line, line_left}
use Rattle.nvt_replay.proofs.playback.Playback.line.Goals as goal

pub returns-in-Some-clause-fault : goal.returns-in-Some-clause-fault
returns-in-Some-clause-fault g c = at_line c.play.result c.play.new.self.printer.writes.has_failed c.args.line.now c.args.number c.play.ensures.fault

pub returns-in-Some-clause-left : goal.returns-in-Some-clause-left
returns-in-Some-clause-left g c =
    line_left c.play.result c.play.new.self.printer.writes.has_failed c.args.line.now c.in-Some.line c.args.self.now.connections
    c.play.new.self.connections (g.W.Write.contents c.args.out.now) (g.W.Write.contents c.play.new.out) c.in-Some.ensures.some
    c.play.ensures.fault c.play.ensures.begun
