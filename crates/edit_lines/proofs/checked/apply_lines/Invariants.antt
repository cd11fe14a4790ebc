use Rattle.std.proofs.Common.{◌≡◌, ◌≤◌, take, drop, length}
use Rattle.config_text.specs.Lines.{lines_of}
use Rattle.edit_lines.specs.Configured.{Configures}
use Rattle.edit_lines.proofs.checked.apply_lines.Given as goal

abbrev pub invariant-loop-line : goal.invariant-loop-line
invariant-loop-line l = record {
  rest : drop l.number (lines_of l.edits) ≡ l.line-iterator;
  counted : l.number ≤ length (lines_of l.edits);
  before : Configures (take l.number (lines_of l.edits)) l.fn.config l.config;
}
