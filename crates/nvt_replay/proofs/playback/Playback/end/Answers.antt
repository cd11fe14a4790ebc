use Rattle.std.proofs.Common.{refl, sym}
use Rattle.nvt_replay.proofs.Cutting.{ending_cut, ending_none_cut}
use Rattle.nvt_replay.proofs.playback.Playback.end.Goals as goal

pub returns-then-not-is_open-clause-begun : goal.returns-then-not-is_open-clause-begun
returns-then-not-is_open-clause-begun g c =
    ending_none_cut c.event.result c.args.connection c.args.self.now.connections c.args.self.now.connections (g.W.Write.contents c.args.out.now)
    (g.W.Write.contents c.event.new.out) (sym c.if-not-is_open.ensures) refl c.event.ensures.begun

pub returns-clause-begun : goal.returns-clause-begun
returns-clause-begun g c =
    ending_cut c.drain.result c.args.connection c.args.self.now.connections c.end.new.self c.drain.new.connections
    (g.W.Write.contents c.args.out.now) (g.W.Write.contents c.drain.new.out) (sym c.if-not-is_open.ensures) c.end.ensures c.drain.ensures.begun
