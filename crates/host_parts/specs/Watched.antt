-- What the lab sees of its processes.
use Rattle.std.specs.Prelude.{◌≡◌, ℕ, All, List, Some, length, pos}
use Rattle.std.specs.Process.{child_status, exit_code}
use Rattle.std.specs.declared.process.child.Child.{Child}
use Rattle.std.specs.declared.process.status.ExitStatus.{ExitStatus}

-- the process was waited for, and its status is 0
pub record HasSucceeded {P I O E : Type 0} (child : Child P I O E) : Type 0 where
  pub status : ExitStatus
  pub known : child_status child ≡ Some status
  pub zero : exit_code status ≡ Some (pos 0)

-- the line of a block of 512 zeros, in hex
pub record IsZeros (line : List ℕ) : Type 0 where
  pub digits : length line ≡ 1024
  pub zeros : All (λ digit. digit ≡ 48) line
