use Rattle.std.proofs.Common.{◌≡◌, ◌≤◌, take, drop, length}
use Rattle.config_text.specs.Lines.{lines_of}
use Rattle.edit_lines.specs.Configured.{Configures, TransitionsByLines}
use Rattle.edit_lines.proofs.configured.take_edits.Given as goal

abbrev pub invariant-loop-line : goal.invariant-loop-line
invariant-loop-line g l = record {
  rest : drop l.number (lines_of l.edits) ≡ l.line-iterator;
  counted : l.number ≤ length (lines_of l.edits);
  before : Configures (take l.number (lines_of l.edits)) l.fn.target.config l.target.config;
  transition : TransitionsByLines (take l.number (lines_of l.edits)) l.fn.target l.target;
}
