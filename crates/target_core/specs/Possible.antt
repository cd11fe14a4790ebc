-- Histories of events none of which a target would refuse.
use Rattle.std.specs.Prelude.{◌≡◌, ◌<◌, ℕ, Bool, true, false, not, List, [], ◌∷◌, IsOk, IsSome}
use Rattle.nvt_config.specs.Accept.{accept}
use Rattle.target_core.specs.Target.{is_incomplete, port_of}
use Rattle.target_decision.specs.World.{connections_max}
use Rattle.target_history.specs.Event.{Event, edited, given_up, opened, stepped, ticked}
use Rattle.target_history.specs.History.{Opening, config_of, happened, has_ended, is_known}
use Rattle.target_history.specs.Occurrence.{Occurrence}

-- a connection is opened on a port that there is, under the least number that is free, of those that there may be
pub record MayOpen (disks : Opening) (before : List Occurrence) (port k : ℕ) : Type 0 where
  pub there : IsSome (port_of (config_of disks before) port)
  pub within : k < connections_max
  pub free : is_known before k ≡ false
  pub least : (j : ℕ) → j < k → is_known before j ≡ true

-- a connection that is known and not ended finds a PDU, or a fault in its place
pub record MayStep (before : List Occurrence) (k : ℕ) (complete : Bool) : Type 0 where
  pub known : is_known before k ≡ true
  pub lasts : has_ended before k ≡ false
  pub something : complete ≡ true

-- what may come after these: an edit that the configuration accepts, a connection that is given up where it is known
abbrev pub MayCome : Opening → List Occurrence → Event → Type 0
MayCome disks before (edited edit) = IsOk (accept (config_of disks before) edit)
MayCome disks before (opened port k) = MayOpen disks before port k
MayCome disks before (given_up k) = is_known before k ≡ true
MayCome disks before (stepped k found m) = MayStep before k (not (is_incomplete found))
MayCome disks before (ticked ms) = Unit {0}

-- each event may come after those before it
abbrev pub IsPossible : Opening → List Event → Type 0
IsPossible disks [] = Unit {0}
IsPossible disks (event ∷ before) = MayCome disks (happened disks before) event × IsPossible disks before
