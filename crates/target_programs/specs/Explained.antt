-- How a replay with words ends.
use Rattle.std.specs.Prelude.{ℕ, Bool, List, ◌⊎◌}
use Rattle.config_text.specs.Lines.{lines_of}
use Rattle.edit_lines.specs.Configured.{RefusesEdits}
use Rattle.nvt_replay.specs.Replay.{EndsScript}
use Rattle.edit_lines.specs.declared.fault.ReplayFault.{ReplayFault}

-- a fault of the disks or the edits, or one of the script that runs, as without words, whether or not a write has failed
abbrev pub FailsSo : ReplayFault → List ℕ → List ℕ → List ℕ → Type 0
FailsSo fault edits stream units = RefusesEdits fault edits units ⊎ ((has_failed : Bool) × EndsScript has_failed fault (lines_of stream))
