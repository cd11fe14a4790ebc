use Rattle.nvt_replay.proofs.Cutting.{ticking_cut}
use Rattle.nvt_replay.proofs.playback.Playback.tick.Goals as goal

pub returns-clause-begun : goal.returns-clause-begun
returns-clause-begun g c =
    ticking_cut c.drain.result c.args.ms c.args.self.now.connections c.tick.new.self (g.W.Write.contents c.args.out.now)
    (g.W.Write.contents c.drain.new.out) c.tick.ensures c.drain.ensures.begun
