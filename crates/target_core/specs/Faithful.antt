-- Disks whose reads find what was written.
use Rattle.std.specs.Prelude.{◌≡◌, ℕ, false, List, Result, MatchResult}
use Rattle.block_store.specs.Stored.{Stored}
use Rattle.io_queue.specs.Act.{is_found}
use Rattle.io_queue.specs.Execution.{strays_at}
use Rattle.target_core.specs.declared.fault.StepFault.{StepFault}
use Rattle.target_core.specs.declared.fault.Stepped.{Stepped}
use Rattle.target_core.specs.declared.fault.Stepped.TheVariants.{Idle, One, Ended}
use Rattle.target_core.specs.Agreement.{AgreesAfterStep, AgreesStill, front_of}
use Rattle.target_core.specs.Target.{TargetState}
use Rattle.tables.specs.NumberTable.{place}

-- none of their reads found other bytes than were written
abbrev pub AreFaithful : List Stored → Type 0
AreFaithful disks = (d : ℕ) → strays_at disks d ≡ 0

-- A step at whose event the disks found no other bytes. So what it reads is what the history says that was written.
pub record AgreesFaithfully (k : ℕ) (old new : TargetState) : Type 0 where
  pub step : AgreesAfterStep k (front_of (place old.streams k)) old new
  pub finds : is_found step.disk_outcome ≡ false

abbrev pub AgreesFaithfullyBy : ℕ → Stepped → TargetState → TargetState → Type 0
AgreesFaithfullyBy k Idle old new = AgreesStill old new
AgreesFaithfullyBy k One old new = AgreesFaithfully k old new
AgreesFaithfullyBy k Ended old new = AgreesFaithfully k old new

abbrev pub FaithfulStepAgrees : ℕ → TargetState → Result Stepped StepFault → TargetState → Type 0
FaithfulStepAgrees k old result new = MatchResult result (λ s. AgreesFaithfullyBy k s old new) (λ fault. AgreesStill old new)
