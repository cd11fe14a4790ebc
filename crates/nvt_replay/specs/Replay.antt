-- What the end of a replay says of its files.
use Rattle.std.specs.Prelude.{◌≡◌, ◌⊎◌, ℕ, ◌-◌, ◌≤◌, Bool, true, false, List, length, take, All, Option}
use Rattle.nvt_config.specs.Configuration.{are_disks, disks_alone}
use Rattle.config_text.specs.Lines.{lines_of}
use Rattle.target_core.specs.Target.{TargetState}
use Rattle.edit_lines.specs.Configured.{AcceptsAll, IsConfigured, IsFirstRefused, line_at}
use Rattle.nvt_replay.specs.CutOff.{IsCutOff, PlaysLineInPart}
use Rattle.nvt_replay.specs.Played.{PlaysAll, Prints}
use Rattle.edit_lines.specs.declared.fault.ReplayFault.{ReplayFault}
use Rattle.edit_lines.specs.declared.fault.ReplayFault.TheVariants.{EditLine, StreamLine, Memory, Io, Disks}
use Rattle.edit_lines.specs.StreamLine.{IsStreamLine}

-- the lines before the nth have a form of a script's, and the nth has none
pub record IsFirstMalformed (lines : List (List ℕ)) (n : ℕ) : Type 0 where
  pub counted : (1 ≤ n) × (n ≤ length lines)
  pub before : All IsStreamLine (take (n - 1) lines)
  pub malformed : ¬ IsStreamLine (line_at lines n)

-- the lines of the script, over the target that the edits made, print this text
abbrev pub Replays : List ℕ → List ℕ → List ℕ → List ℕ → Type 0
Replays edits stream units text =
    (t : TargetState) × (last : TargetState) × IsConfigured edits units t × PlaysAll (lines_of stream) t text last

-- what was printed before a fault of the script: where a line has none of its forms, those before it were played;
-- without memory, or where a write failed, a line was cut off
abbrev pub PlaysBefore : ReplayFault → List (List ℕ) → TargetState → Option (List ℕ) → Option (List ℕ) → Type 0
PlaysBefore (EditLine n reply) lines t old new = Unit {0}
PlaysBefore (StreamLine n) lines t old new = Prints old new (λ text. (last : TargetState) × PlaysAll (take (n - 1) lines) t text last)
PlaysBefore Memory lines t old new = Prints old new (λ text. IsCutOff lines t text)
PlaysBefore Io lines t old new = Prints old new (λ text. IsCutOff lines t text)
PlaysBefore Disks lines t old new = Unit {0}

-- .. over the target that the edits made; without memory for that nothing was printed
abbrev pub ReplaysBefore : ReplayFault → List ℕ → List ℕ → List ℕ → Option (List ℕ) → Option (List ℕ) → Type 0
ReplaysBefore (EditLine n reply) edits stream units old new = Unit {0}
ReplaysBefore (StreamLine n) edits stream units old new =
    (t : TargetState) × IsConfigured edits units t × PlaysBefore (StreamLine n) (lines_of stream) t old new
ReplaysBefore Memory edits stream units old new =
    (new ≡ old) ⊎ ((t : TargetState) × IsConfigured edits units t × PlaysBefore Memory (lines_of stream) t old new)
ReplaysBefore Io edits stream units old new =
    (t : TargetState) × IsConfigured edits units t × PlaysBefore Io (lines_of stream) t old new
ReplaysBefore Disks edits stream units old new = Unit {0}

-- what each fault says of the edits, the script and the disks
abbrev pub Explains : ReplayFault → List ℕ → List ℕ → List ℕ → Type 0
Explains (EditLine n reply) edits stream units =
    (are_disks units ≡ true) × IsFirstRefused (lines_of edits) (disks_alone units) n reply
Explains (StreamLine n) edits stream units =
    AcceptsAll edits units × IsFirstMalformed (lines_of stream) n
Explains Memory edits stream units = Unit {0}
Explains Io edits stream units = AcceptsAll edits units
Explains Disks edits stream units = are_disks units ≡ false

-- what a fault says of a line of a script, the nth, and of the output: it is at fault only where a write has failed
abbrev pub EndsAtLine : Bool → ReplayFault → List ℕ → ℕ → Type 0
EndsAtLine has_failed (EditLine m reply) line n = ⊥
EndsAtLine has_failed (StreamLine m) line n = (m ≡ n) × ¬ IsStreamLine line
EndsAtLine has_failed Memory line n = Unit {0}
EndsAtLine has_failed Io line n = has_failed ≡ true
EndsAtLine has_failed Disks line n = ⊥

-- what such a line printed and changed: nothing where it has none of the forms, and else a part
abbrev pub LeavesLine : ReplayFault → List ℕ → TargetState → TargetState → Option (List ℕ) → Option (List ℕ) → Type 0
LeavesLine (EditLine m reply) line old new before after = ⊥
LeavesLine (StreamLine m) line old new before after = (new ≡ old) × (after ≡ before)
LeavesLine Memory line old new before after = PlaysLineInPart line old new before after
LeavesLine Io line old new before after = PlaysLineInPart line old new before after
LeavesLine Disks line old new before after = ⊥

-- what a fault says of the lines of a script that runs, and of the output
abbrev pub EndsScript : Bool → ReplayFault → List (List ℕ) → Type 0
EndsScript has_failed (EditLine n reply) lines = ⊥
EndsScript has_failed (StreamLine n) lines = IsFirstMalformed lines n
EndsScript has_failed Memory lines = Unit {0}
EndsScript has_failed Io lines = has_failed ≡ true
EndsScript has_failed Disks lines = ⊥

-- a fault of the edits or the disks: no line of the script has run
abbrev pub IsBeforeScript : ReplayFault → Type 0
IsBeforeScript (EditLine n reply) = Unit {0}
IsBeforeScript (StreamLine n) = ⊥
IsBeforeScript Memory = ⊥
IsBeforeScript Io = ⊥
IsBeforeScript Disks = Unit {0}
