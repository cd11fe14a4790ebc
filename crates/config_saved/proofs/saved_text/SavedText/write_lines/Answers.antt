use Rattle.config_saved.proofs.Pieces.{one_more_line}
use Rattle.config_saved.proofs.saved_text.SavedText.write_lines.Goals as goal

pub loop-end-preserved : goal.loop-end-preserved
loop-end-preserved c =
    let written = c.loop-end.invariant in
    let line = c.in_default.ensures in
    one_more_line c.args.self.now c.loop-end.self c.write_line.new.self written.0 line.0 c.args.out.now c.loop-end.out c.write_line.new.out written.1 written.2 line.1 line.2
