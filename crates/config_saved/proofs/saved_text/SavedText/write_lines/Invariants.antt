use Rattle.std.proofs.Common.{◌≡◌, ◌++◌, List, length}
use Rattle.config_lists.specs.declared.edit.Edit.{Edit}
use Rattle.config_saved.specs.Pieces.{Appends}
use Rattle.config_saved.specs.Text.{text_of}
use Rattle.config_saved.proofs.saved_text.SavedText.write_lines.Given as goal

-- the lines of some edits are written
abbrev pub invariant-loop-end : goal.invariant-loop-end
invariant-loop-end l = (edits : List Edit) × (l.fn.self ≡ edits ++ l.self) × Appends l.fn.out l.out (text_of edits)

abbrev pub decreases-loop-end : goal.decreases-loop-end
decreases-loop-end l = length l.self
