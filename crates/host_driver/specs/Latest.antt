-- The command that is outstanding under an identifier, looking back over those that were submitted.
use Rattle.std.specs.Prelude.{◌≡◌, ◌==◌, ℕ, List, [], ◌∷◌, Option, Some, None, if◌then◌else◌}
use Rattle.tables.specs.NumberTable.{place}
use Rattle.host_driver.specs.declared.params.HostParams.{HostParams}
use Rattle.host_driver.specs.Command.{Command, data_of}
use Rattle.host_driver.specs.Event.{History, submitted, taken}
use Rattle.host_driver.specs.Pending.{Pending, behind_by}
use Rattle.host_driver.specs.State.{state_after}

-- the command that was submitted last under an identifier
unfoldable pub latest : History → ℕ → Option Command
latest [] cid = None
latest (submitted other c ∷ h) cid = if cid == other then Some c else latest h cid
latest (taken f ∷ h) cid = latest h cid

-- the data that it has to send behind its capsule; the Connect, that nobody submits, has none
abbrev pub out_of : ℕ → Option Command → List ℕ
out_of in_capsule None = []
out_of in_capsule (Some c) = behind_by (data_of in_capsule c) c.out

-- how many bytes it wants
abbrev pub into_of : Option Command → ℕ
into_of None = 0
into_of (Some c) = c.into

-- Whatever happened, what a queue sends at an R2T, and how many bytes it answers with, are those of the command that was
-- submitted last under the identifier
pub record CommandsAreTheLatest : Type 0 where
  pub out : (params : HostParams) (h : History) (cid : ℕ) (p : Pending) → place (state_after params h).commands cid ≡ Some p
      → p.out ≡ out_of params.in_capsule (latest h cid)
  pub into : (params : HostParams) (h : History) (cid : ℕ) (p : Pending) → place (state_after params h).commands cid ≡ Some p
      → p.into ≡ into_of (latest h cid)
