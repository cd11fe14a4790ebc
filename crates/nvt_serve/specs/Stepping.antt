-- What is left of a target once a connection has stepped as far as it goes.
use Rattle.std.specs.Prelude.{◌≡◌, ◌≢◌, ℕ, Bool, false, List, Option}
use Rattle.nvt_ports.specs.Told.{PortsState}
use Rattle.nvt_serve.specs.Looks.{LastsAt}
use Rattle.nvt_serve.specs.Served.{Goes, IsQuietAt, no_numbers}
use Rattle.target_core.specs.Target.{TargetState}
use Rattle.target_core.specs.Marks.{SameKnown}

-- steps were made, whatever the ports and slots are
abbrev pub GoesBySteps : TargetState → TargetState → Type 0
GoesBySteps old new = (ports : PortsState) (connections : List (Option ℕ))
    → Goes no_numbers (record { ports = ports; target = old; connections = connections }) (record { ports = ports; target = new; connections = connections })

-- Connection k stepped until it had output, was idle, or wanted memory; the same connections are known, and no other has
-- anything to do that it had not before, nor another room, unless it has ended.
pub record StepsOut (k : ℕ) (wants : Bool) (old new : TargetState) : Type 0 where
  pub goes : GoesBySteps old new
  pub known : SameKnown old new
  pub quiet : wants ≡ false → IsQuietAt new k
  pub others : (j : ℕ) → j ≢ k → IsQuietAt old j → IsQuietAt new j
  pub lasts : (j : ℕ) → j ≢ k → LastsAt j old new
