-- The groups of one subsystem as they are added port by port, and those of all as they are set one by one.
use Rattle.std.specs.Prelude.{◌≡◌, ℕ, ◌==◌, ◌||◌, List, [], IfSome, is_some, nat_eq, if◌then◌else◌}
use Rattle.std.specs.List.{list_any}
use Rattle.std.specs.Map.{lookup}
use Rattle.std.specs.Str.{bytes_eq}
use Rattle.config_lists.specs.declared.group_state.GroupState.{GroupState}
use Rattle.config_lists.specs.GroupState.{is_state_on}
use Rattle.nvt_config.specs.Configuration.{Configuration}
use Rattle.tables.specs.NameTable.{value_of}
use Rattle.tables.specs.Variants.{VariantsState}
use Rattle.ana_view.specs.Group.{Descriptor, listed}
use Rattle.ana_view.specs.Reached.{AreVariantsOf}
use Rattle.ana_view.specs.View.{OfSubsystem, Shown, groups_on, own_in, strangers_in}

-- what is there of a port are the groups that a configuration shows on it
abbrev pub AreListed : Configuration → List ℕ → List (ℕ × List Descriptor) → Type 0
AreListed c subsystem ports = (port : ℕ) → IfSome (lookup (nat_eq port) ports) (λ groups. groups ≡ listed c subsystem port)

-- one port more is there
abbrev pub HasMore : List (ℕ × List Descriptor) → List (ℕ × List Descriptor) → ℕ → Type 0
HasMore old new port = (p : ℕ) → is_some (lookup (nat_eq p) new) ≡ ((p == port) || is_some (lookup (nat_eq p) old))

-- a port is there exactly where a state was set on it
abbrev pub HasPorts : List ℕ → List GroupState → List (ℕ × List Descriptor) → Type 0
HasPorts subsystem states ports = (port : ℕ) → list_any (is_state_on port subsystem) states ≡ is_some (lookup (nat_eq port) ports)

-- no group on any port
abbrev pub no_groups : OfSubsystem
no_groups = record { plain = []; ports = [] }

-- nobody sees a group
abbrev pub no_variants : VariantsState OfSubsystem
no_variants = record { common = no_groups; own = [] }

-- the subsystem shows these groups now, to strangers and to the hosts that have their own, and every other what it showed
pub record AreSet (old : Shown) (subsystem : List ℕ) (groups : VariantsState OfSubsystem) (new : Shown) : Type 0 where
  pub own : (host other : List ℕ)
      → own_in new host other ≡ (if bytes_eq other subsystem then value_of groups.own host else own_in old host other)
  pub strangers : (other : List ℕ) (port : ℕ)
      → strangers_in new other port ≡ (if bytes_eq other subsystem then groups_on groups.common port else strangers_in old other port)

-- .. those that it has in this configuration
abbrev pub AddsVariants : Configuration → Shown → List ℕ → Shown → Type 0
AddsVariants c old subsystem new = (groups : VariantsState OfSubsystem) × AreVariantsOf c subsystem groups × AreSet old subsystem groups new
