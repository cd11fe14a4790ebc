-- Why a replay ends.
use Rattle.std.specs.Prelude.{◌≡◌, Bool, true}
use Rattle.edit_lines.specs.declared.fault.ReplayFault.{ReplayFault}
use Rattle.edit_lines.specs.declared.fault.ReplayFault.TheVariants.{EditLine, StreamLine, Memory, Io, Disks}

-- a fault that a line of the script may end with: memory, or the output
abbrev pub IsOfRun : ReplayFault → Type 0
IsOfRun (EditLine n reply) = ⊥
IsOfRun (StreamLine n) = ⊥
IsOfRun Memory = Unit {0}
IsOfRun Io = Unit {0}
IsOfRun Disks = ⊥

-- .. the output only where a write has failed
abbrev pub EndsRun : Bool → ReplayFault → Type 0
EndsRun has_failed (EditLine n reply) = ⊥
EndsRun has_failed (StreamLine n) = ⊥
EndsRun has_failed Memory = Unit {0}
EndsRun has_failed Io = has_failed ≡ true
EndsRun has_failed Disks = ⊥
