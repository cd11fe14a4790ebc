use Rattle.std.proofs.Common.{◌≡◌, ◌≤◌, take, drop, length}
use Rattle.std.specs.List.{All}
use Rattle.config_text.specs.Lines.{lines_of}
use Rattle.edit_lines.specs.StreamLine.{IsStreamLine}
use Rattle.target_programs.proofs.explained.play.Given as goal

abbrev pub invariant-loop-line : goal.invariant-loop-line
invariant-loop-line g l = record {
  rest : drop l.number (lines_of l.stream) ≡ l.line-iterator;
  counted : l.number ≤ length (lines_of l.stream);
  before : All IsStreamLine (take l.number (lines_of l.stream));
}
