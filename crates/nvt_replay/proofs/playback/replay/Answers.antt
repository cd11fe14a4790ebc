use Rattle.std.proofs.Common.{◌≡◌, All}
use Rattle.std.proofs.lemmas.Result.{on_ok_weaker}
use Rattle.config_text.specs.Lines.{lines_of}
use Rattle.nvt_replay.proofs.Faulting.{edits_before, script_before, script_began, script_explained}
use Rattle.nvt_replay.specs.Played.{PlaysAll, Prints}
use Rattle.edit_lines.specs.StreamLine.{IsStreamLine}
use Rattle.nvt_replay.proofs.playback.replay.Goals as goal

pub returns-in-Ok-clause-ok : goal.returns-in-Ok-clause-ok
returns-in-Ok-clause-ok g c =
    let edits = c.in-Ok.ensures in
    on_ok_weaker {P = All IsStreamLine (lines_of c.args.stream.now)} c.run.result
    (λ lines. ((edits.disks, c.in-Ok.playback.connections.config, edits.ok), lines)) c.run.ensures.ok

pub returns-in-Ok-clause-played : goal.returns-in-Ok-clause-played
returns-in-Ok-clause-played g c =
    let first = c.in-Ok.playback.connections in
    let last = c.run.new.self.connections in
    on_ok_weaker
    {P = Prints (g.W.Write.contents c.args.out.now) (g.W.Write.contents c.run.new.out) (λ text. PlaysAll (lines_of c.args.stream.now) first text last)}
    c.run.result (λ printed. (printed.0, printed.1, (first, last, c.in-Ok.ensures.configured, printed.2))) c.run.ensures.played

pub returns-in-Ok-clause-before : goal.returns-in-Ok-clause-before
returns-in-Ok-clause-before g c =
    script_before c.run.result c.args.edits.now c.args.stream.now c.args.units.now c.in-Ok.playback.connections
    (g.W.Write.contents c.args.out.now) (g.W.Write.contents c.run.new.out) c.in-Ok.ensures.configured c.run.ensures.before

pub returns-in-Err-clause-before : goal.returns-in-Err-clause-before
returns-in-Err-clause-before g c =
    edits_before c.in-Err.fault c.args.edits.now c.args.stream.now c.args.units.now (g.W.Write.contents c.args.out.now) c.in-Err.ensures.fault

pub returns-in-Ok-clause-fault : goal.returns-in-Ok-clause-fault
returns-in-Ok-clause-fault g c =
    let edits = c.in-Ok.ensures in
    script_explained c.run.result _ c.args.edits.now c.args.stream.now c.args.units.now (edits.disks, c.in-Ok.playback.connections.config, edits.ok) c.run.ensures.fault

pub returns-in-Ok-clause-unwritten : goal.returns-in-Ok-clause-unwritten
returns-in-Ok-clause-unwritten g c =
    script_began c.run.result _ (lines_of c.args.stream.now) (g.W.Write.contents c.run.new.out ≡ g.W.Write.contents c.args.out.now) c.run.ensures.fault
