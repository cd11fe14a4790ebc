-- Whether a command reaches its namespace (NVM Command Set 1.0, section 3; Base 2.0, section 8.1).
use Rattle.std.specs.Prelude.{◌≡◌, ℕ, ◌*◌, ◌≤◌, ◌^◌, Bool, List, Option, Some, None, find, slice_get, Result, Ok, Err, if◌then◌else◌}
use Rattle.config_lists.specs.declared.group_state.AnaState.{AnaState}
use Rattle.config_lists.specs.declared.group_state.AnaState.TheVariants.{Optimized, NonOptimized, Inaccessible, PersistentLoss, Change}
use Rattle.config_lists.specs.declared.namespace.Namespace.{Namespace}
use Rattle.config_lists.specs.GroupState.{state_for}
use Rattle.config_lists.specs.Namespace.{bytes_of, is_named}
use Rattle.nvt_config.specs.Configuration.{Configuration}
use Rattle.nvt_config.specs.SeenBy.{seen_by}
use Rattle.nvt_fields.specs.declared.status.Status.{Status}
use Rattle.nvt_fields.specs.Status.{ana_inaccessible, ana_persistent_loss, ana_transition, invalid_namespace_or_format}
use Rattle.pdu_codec.specs.Sqe.{nsid_of}

-- refused if the test passes, and else what comes next
abbrev pub refuse : {A : Type 0} → Bool → Status → Result A Status → Result A Status
refuse test status next = if test then Err status else next

-- what follows a check that passed
abbrev pub then_do : {A B : Type 0} → Result A Status → (A → Result B Status) → Result B Status
then_do (Ok a) next = next a
then_do (Err status) next = Err status

-- whether a namespace is reached in this state of its ANA group on the controller's port
abbrev pub state_verdict : AnaState → Result (Unit {0}) Status
state_verdict Optimized = Ok tt
state_verdict NonOptimized = Ok tt
state_verdict Inaccessible = Err ana_inaccessible
state_verdict PersistentLoss = Err ana_persistent_loss
state_verdict Change = Err ana_transition

-- the namespace of this subsystem and this identifier, if it is there and this host sees it
abbrev pub namespace_seen : Configuration → List ℕ → List ℕ → ℕ → Option Namespace
namespace_seen config host subsystem nsid = let seen = seen_by config host in find (is_named subsystem nsid) seen.namespaces

abbrev pub found_reached : Option Namespace → Configuration → ℕ → List ℕ → Result Namespace Status
found_reached None config port subsystem = Err invalid_namespace_or_format
found_reached (Some n) config port subsystem = then_do (state_verdict (state_for port subsystem n.group config.states)) (λ reached. Ok n)

-- the namespace that the command of this entry names, on a controller of this subsystem that this host made through this
-- port, or why it is not reached: it is not active for the host, or by the state of its ANA group
abbrev pub reached : Configuration → List ℕ → ℕ → List ℕ → List ℕ → Result Namespace Status
reached config host port subsystem entry =
    found_reached (namespace_seen config host subsystem (nsid_of entry)) config port subsystem

-- ---- what holds of it

-- a namespace is no larger than a disk may be
abbrev pub IsSmall : Namespace → Type 0
IsSmall n = n.blocks * bytes_of n.block_size ≤ 2 ^ 49

-- a namespace fits on its disk, of these, which is no larger than a disk may be
pub record FitsDisk (units : List ℕ) (n : Namespace) : Type 0 where
  pub size : ℕ
  pub is : slice_get units n.disk ≡ Some size
  pub fits : n.blocks * bytes_of n.block_size ≤ size * 512
  pub bound : size ≤ 2 ^ 40
