-- How a connection of a target steps until it is idle.
use Rattle.std.specs.Prelude.{◌≡◌, ℕ, zero, suc, Bool, true, false, List, Option, Some, None}
use Rattle.io_queue.specs.Act.{DiskOutcome}
use Rattle.tables.specs.NumberTable.{place}
use Rattle.target_core.specs.Agreement.{front_of}
use Rattle.target_core.specs.Connection.{KnownConnection}
use Rattle.target_core.specs.Transition.{Transition}
use Rattle.target_core.specs.Target.{TargetState, is_idle, meets}
use Rattle.target_history.specs.Event.{stepped}
use Rattle.target_history.specs.Occurrence.{DisksAct}

-- whether a step of a connection has nothing to do
abbrev pub is_idle_at : Option (List ℕ) → Option KnownConnection → Bool
is_idle_at None o = true
is_idle_at (Some held) None = true
is_idle_at (Some held) (Some c) = is_idle held c

-- a step of connection k, which is not idle, with what the disks may do at its event
pub record Steps (k : ℕ) (old new : TargetState) : Type 0 where
  pub busy : is_idle_at (place old.streams k) (place old.connections k) ≡ false
  pub disk_outcome : DiskOutcome
  pub did : DisksAct (meets old (stepped k (front_of (place old.streams k)) disk_outcome)) old.disks new.disks
  pub transition : Transition (stepped k (front_of (place old.streams k)) disk_outcome) old new

-- n of them, one after the other
abbrev pub StepsTimes : ℕ → ℕ → TargetState → TargetState → Type 0
StepsTimes zero k old new = new ≡ old
StepsTimes (suc n) k old new = (mid : TargetState) × Steps k old mid × StepsTimes n k mid new

-- connection k steps until it is idle
pub record StepsUntilIdle (k : ℕ) (old new : TargetState) : Type 0 where
  pub number : ℕ
  pub steps : StepsTimes number k old new
  pub idle : is_idle_at (place new.streams k) (place new.connections k) ≡ true
