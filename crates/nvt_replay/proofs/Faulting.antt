-- What each fault says of a line, of a script and of a replay.
use Rattle.std.proofs.Common.{ℕ, Bool, List, Option, Result, Ok, Err, refl, inl, inr}
use Rattle.std.specs.Prelude.{IfErr, OnErr}
use Rattle.config_text.specs.Lines.{lines_of}
use Rattle.target_core.specs.Target.{TargetState}
use Rattle.edit_lines.specs.declared.fault.ReplayFault.{ReplayFault}
use Rattle.edit_lines.specs.declared.fault.ReplayFault.TheVariants as fault
use Rattle.edit_lines.specs.declared.stream_line.StreamLine.{StreamLine}
use Rattle.edit_lines.specs.Fault.{EndsRun}
use Rattle.edit_lines.specs.StreamLine.{Says}
use Rattle.nvt_replay.specs.CutOff.{IsCutOff, PlaysInPart}
use Rattle.nvt_replay.specs.Played.{Prints}
use Rattle.edit_lines.specs.Configured.{AcceptsAll, IsConfigured, RefusesEdits}
use Rattle.nvt_replay.specs.Replay.{EndsAtLine, EndsScript, Explains, IsBeforeScript, LeavesLine, PlaysBefore, ReplaysBefore}

-- ---- a line that was begun

pub at_line : (r : Result (Unit {0}) ReplayFault) (has_failed : Bool) (line : List ℕ) (n : ℕ) → IfErr r (EndsRun has_failed)
    → IfErr r (λ f. EndsAtLine has_failed f line n)
at_line (Ok done) has_failed line n ends = tt
at_line (Err (fault.EditLine m reply)) has_failed line n ends = ends
at_line (Err (fault.StreamLine m)) has_failed line n ends = absurd ends
at_line (Err fault.Memory) has_failed line n ends = tt
at_line (Err fault.Io) has_failed line n ends = ends
at_line (Err fault.Disks) has_failed line n ends = ends

pub line_left : (r : Result (Unit {0}) ReplayFault) (has_failed : Bool) (line : List ℕ) (says : StreamLine) (old new : TargetState) (a b : Option (List ℕ))
    → Says line says → IfErr r (EndsRun has_failed) → OnErr r (Prints a b (λ text. PlaysInPart says old text new))
    → IfErr r (λ f. LeavesLine f line old new a b)
line_left (Ok done) has_failed line says old new a b is ends part = tt
line_left (Err (fault.EditLine m reply)) has_failed line says old new a b is ends part = ends
line_left (Err (fault.StreamLine m)) has_failed line says old new a b is ends part = absurd ends
line_left (Err fault.Memory) has_failed line says old new a b is ends part = record { says = says; is = is; prints = part }
line_left (Err fault.Io) has_failed line says old new a b is ends part = record { says = says; is = is; prints = part }
line_left (Err fault.Disks) has_failed line says old new a b is ends part = ends

-- ---- a script, of which a line was begun

pub ends_script : (f : ReplayFault) (has_failed : Bool) (lines : List (List ℕ)) → EndsRun has_failed f → EndsScript has_failed f lines
ends_script (fault.EditLine m reply) has_failed lines ends = ends
ends_script (fault.StreamLine m) has_failed lines ends = absurd ends
ends_script fault.Memory has_failed lines ends = tt
ends_script fault.Io has_failed lines ends = ends
ends_script fault.Disks has_failed lines ends = ends

pub plays_before : (f : ReplayFault) (has_failed : Bool) (lines : List (List ℕ)) (t : TargetState) (a b : Option (List ℕ)) → EndsRun has_failed f
    → Prints a b (λ text. IsCutOff lines t text) → PlaysBefore f lines t a b
plays_before (fault.EditLine m reply) has_failed lines t a b ends part = tt
plays_before (fault.StreamLine m) has_failed lines t a b ends part = absurd ends
plays_before fault.Memory has_failed lines t a b ends part = part
plays_before fault.Io has_failed lines t a b ends part = part
plays_before fault.Disks has_failed lines t a b ends part = tt

-- ---- a replay

pub script_before : (r : Result (Unit {0}) ReplayFault) (edits stream units : List ℕ) (t : TargetState) (a b : Option (List ℕ)) → IsConfigured edits units t
    → IfErr r (λ f. PlaysBefore f (lines_of stream) t a b) → IfErr r (λ f. ReplaysBefore f edits stream units a b)
script_before (Ok done) edits stream units t a b configured before = tt
script_before (Err (fault.EditLine m reply)) edits stream units t a b configured before = tt
script_before (Err (fault.StreamLine m)) edits stream units t a b configured before = (t, configured, before)
script_before (Err fault.Memory) edits stream units t a b configured before = inr (t, configured, before)
script_before (Err fault.Io) edits stream units t a b configured before = (t, configured, before)
script_before (Err fault.Disks) edits stream units t a b configured before = tt

pub edits_before : (f : ReplayFault) (edits stream units : List ℕ) (a : Option (List ℕ)) → RefusesEdits f edits units → ReplaysBefore f edits stream units a a
edits_before (fault.EditLine m reply) edits stream units a refuses = tt
edits_before (fault.StreamLine m) edits stream units a refuses = absurd refuses
edits_before fault.Memory edits stream units a refuses = inl refl
edits_before fault.Io edits stream units a refuses = absurd refuses
edits_before fault.Disks edits stream units a refuses = tt

pub script_explained : (r : Result (Unit {0}) ReplayFault) (has_failed : Bool) (edits stream units : List ℕ) → AcceptsAll edits units
    → IfErr r (λ f. EndsScript has_failed f (lines_of stream)) → IfErr r (λ f. Explains f edits stream units)
script_explained (Ok done) has_failed edits stream units accepts ends = tt
script_explained (Err (fault.EditLine m reply)) has_failed edits stream units accepts ends = absurd ends
script_explained (Err (fault.StreamLine m)) has_failed edits stream units accepts ends = (accepts, ends)
script_explained (Err fault.Memory) has_failed edits stream units accepts ends = tt
script_explained (Err fault.Io) has_failed edits stream units accepts ends = accepts
script_explained (Err fault.Disks) has_failed edits stream units accepts ends = absurd ends

-- What was played is never before its script.
pub script_began : (r : Result (Unit {0}) ReplayFault) (has_failed : Bool) (lines : List (List ℕ)) (P : Type 0) → IfErr r (λ f. EndsScript has_failed f lines)
    → IfErr r (λ f. IsBeforeScript f → P)
script_began (Ok done) has_failed lines P ends = tt
script_began (Err (fault.EditLine m reply)) has_failed lines P ends = absurd ends
script_began (Err (fault.StreamLine m)) has_failed lines P ends = λ before. absurd before
script_began (Err fault.Memory) has_failed lines P ends = λ before. absurd before
script_began (Err fault.Io) has_failed lines P ends = λ before. absurd before
script_began (Err fault.Disks) has_failed lines P ends = absurd ends
