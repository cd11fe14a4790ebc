use Rattle.std.specs.Prelude.{codes}
use Rattle.edit_lines.specs.Printed.{event_line}
use Rattle.nvt_replay.proofs.Cutting.{opened_plays, opening_cut}
use Rattle.nvt_replay.proofs.playback.Playback.open.Goals as goal

pub returns-in-Ok-clause-begun : goal.returns-in-Ok-clause-begun
returns-in-Ok-clause-begun g c =
    opening_cut c.event.result c.args.port c.args.self.now.connections c.open.new.self (g.W.Write.contents c.args.out.now)
    (g.W.Write.contents c.event.new.out) (event_line c.in-Ok.k (codes "open"))
    (opened_plays c.args.port c.in-Ok.k c.args.self.now.connections c.open.new.self _ c.in-Ok.ensures.refused
    c.in-Ok.ensures.opened.0 c.in-Ok.ensures.opened.1)
    c.event.ensures.begun
