-- A target that lines of edits configured, and what is said of lines that are refused.
use Rattle.std.specs.Prelude.{◌≡◌, ℕ, ◌-◌, ◌≤◌, true, false, List, [], ◌∷◌, length, map, replicate, take, slice_index_or, Result, Ok, Err}
use Rattle.block_store.specs.Unit.{zero_unit}
use Rattle.config_lists.specs.declared.edit.Edit.{Edit}
use Rattle.nvt_config.specs.Accept.{accept}
use Rattle.nvt_config.specs.Configuration.{Configuration, are_disks, disks_alone}
use Rattle.config_text.specs.EditLine.{IsLineOf}
use Rattle.edit_lines.specs.Line.{Refuses}
use Rattle.config_text.specs.Lines.{lines_of}
use Rattle.edit_lines.specs.declared.fault.ReplayFault.{ReplayFault}
use Rattle.edit_lines.specs.declared.fault.ReplayFault.TheVariants.{EditLine, StreamLine, Memory, Io, Disks}
use Rattle.edit_lines.specs.declared.reply.Reply.{Reply}
use Rattle.target_core.specs.Transition.{Transition}
use Rattle.target_core.specs.Target.{IsNewTarget, TargetState}
use Rattle.target_history.specs.Event.{edited}
use Rattle.target_history.specs.History.{Opening}

-- each line is that of an edit, and the configuration accepts them in their order
abbrev pub Configures : List (List ℕ) → Configuration → Configuration → Type 0
Configures [] old new = new ≡ old
Configures (line ∷ lines) old new =
    (edit : Edit) × IsLineOf line edit
    × (next : Configuration) × (accept old edit ≡ Ok next) × Configures lines next new

-- the line of this number, counted from 1
abbrev pub line_at : List (List ℕ) → ℕ → List ℕ
line_at lines n = slice_index_or lines (n - 1) []

-- the lines before the nth are accepted, and the nth is refused so
pub record IsFirstRefused (lines : List (List ℕ)) (old : Configuration) (n : ℕ) (reply : Reply) : Type 0 where
  pub counted : (1 ≤ n) × (n ≤ length lines)
  pub found : (c : Configuration) × Configures (take (n - 1) lines) old c × Refuses c (line_at lines n) reply

-- all lines of edits are accepted
abbrev pub AcceptsAll : List ℕ → List ℕ → Type 0
AcceptsAll edits units =
    (are_disks units ≡ true) × (c : Configuration) × Configures (lines_of edits) (disks_alone units) c

-- the edit that a line says is made
abbrev pub TransitionByLine : List ℕ → TargetState → TargetState → Type 0
TransitionByLine line old new = (edit : Edit) × IsLineOf line edit × Transition (edited edit) old new

-- .. and those of lines, one after the other
abbrev pub TransitionsByLines : List (List ℕ) → TargetState → TargetState → Type 0
TransitionsByLines [] old new = new ≡ old
TransitionsByLines (line ∷ lines) old new = (next : TargetState) × TransitionByLine line old next × TransitionsByLines lines next new

-- the units of disks of these sizes: zeros
abbrev pub zeroed : List ℕ → Opening
zeroed units = map (λ n. replicate n zero_unit) units

-- the sizes of disks of these units
abbrev pub sizes_of : Opening → List ℕ
sizes_of disks = map length disks

-- a target of disks that open with these units after the edits
pub record IsConfiguredOver (edits : List ℕ) (disks : Opening) (t : TargetState) : Type 0 where
  pub first : TargetState
  pub is_new : IsNewTarget disks first
  pub transition : TransitionsByLines (lines_of edits) first t

-- .. of disks of zeros of these sizes
abbrev pub IsConfigured : List ℕ → List ℕ → TargetState → Type 0
IsConfigured edits units t = IsConfiguredOver edits (zeroed units) t

-- what a fault says of lines of edits, which start from this configuration
abbrev pub RefusesLines : ReplayFault → List (List ℕ) → Configuration → Type 0
RefusesLines (EditLine n reply) lines old = IsFirstRefused lines old n reply
RefusesLines (StreamLine n) lines old = ⊥
RefusesLines Memory lines old = Unit {0}
RefusesLines Io lines old = ⊥
RefusesLines Disks lines old = ⊥

-- what a fault says of disks of these sizes
abbrev pub RefusesDisks : ReplayFault → List ℕ → Type 0
RefusesDisks (EditLine n reply) units = ⊥
RefusesDisks (StreamLine n) units = ⊥
RefusesDisks Memory units = Unit {0}
RefusesDisks Io units = ⊥
RefusesDisks Disks units = are_disks units ≡ false

-- what a fault says of the edits and the disks, before the script
abbrev pub RefusesEdits : ReplayFault → List ℕ → List ℕ → Type 0
RefusesEdits (EditLine n reply) edits units =
    (are_disks units ≡ true) × IsFirstRefused (lines_of edits) (disks_alone units) n reply
RefusesEdits (StreamLine n) edits units = ⊥
RefusesEdits Memory edits units = Unit {0}
RefusesEdits Io edits units = ⊥
RefusesEdits Disks edits units = are_disks units ≡ false

-- the nth line: accepted, or refused with the reply, or without memory
abbrev pub RefusesLine : ReplayFault → Configuration → List ℕ → ℕ → Type 0
RefusesLine (EditLine m reply) c line n = (m ≡ n) × Refuses c line reply
RefusesLine (StreamLine m) c line n = ⊥
RefusesLine Memory c line n = Unit {0}
RefusesLine Io c line n = ⊥
RefusesLine Disks c line n = ⊥

abbrev pub TakesLine : Configuration → List ℕ → ℕ → Result (Unit {0}) ReplayFault → Configuration → Type 0
TakesLine old line n (Ok done) new = (edit : Edit) × IsLineOf line edit × (accept old edit ≡ Ok new)
TakesLine old line n (Err fault) new = RefusesLine fault old line n
