-- The ANA groups that a controller shows (Base 2.0, section 8.1).
use Rattle.std.specs.Prelude.{ℕ, Bool, true, false, not, ◌==◌, ◌&&◌, List, [], ◌∷◌, Option, Some, None, find}
use Rattle.std.specs.List.{filter_map, list_any}
use Rattle.config_lists.specs.declared.group_state.AnaState.{AnaState}
use Rattle.config_lists.specs.declared.group_state.AnaState.TheVariants.{Optimized, NonOptimized, Inaccessible, PersistentLoss, Change}
use Rattle.config_lists.specs.declared.namespace.Namespace.{Namespace}
use Rattle.config_lists.specs.GroupState.{state_for}
use Rattle.config_lists.specs.Namespace.{is_named}
use Rattle.nvt_config.specs.Configuration.{Configuration}
use Rattle.config_lists.specs.Numbered.{nsids_where, numbers_from}

-- a group as a controller shows it: its state on the controller's port, and the identifiers of the namespaces of the
-- controller's subsystem in it, rising
pub record Descriptor : Type 0 where
  pub id : ℕ
  pub state : AnaState
  pub nsids : List ℕ

-- whether the namespace is in a group, where it is there
abbrev pub is_in_group : Option Namespace → ℕ → Bool
is_in_group None group = false
is_in_group (Some n) group = n.group == group

-- the identifiers of the subsystem's namespaces in a group, rising
unfoldable pub members : Configuration → List ℕ → ℕ → List ℕ
members c subsystem group = nsids_where (λ nsid. is_in_group (find (is_named subsystem nsid) c.namespaces) group)

-- a group that holds none is absent
abbrev pub descriptor_with : ℕ → AnaState → List ℕ → Option Descriptor
descriptor_with group state [] = None
descriptor_with group state (nsid ∷ nsids) = Some (record { id = group; state = state; nsids = nsid ∷ nsids })

-- the group as the controllers of that subsystem on that port show it: its state is optimized where none was set
abbrev pub descriptor : Configuration → List ℕ → ℕ → ℕ → Option Descriptor
descriptor c subsystem port group = descriptor_with group (state_for port subsystem group c.states) (members c subsystem group)

-- .. of the groups from 1 to 32 those that are not absent, rising
unfoldable pub listed_by : (ℕ → Option Descriptor) → List Descriptor
listed_by shown = filter_map shown (numbers_from 1 32)

abbrev pub listed : Configuration → List ℕ → ℕ → List Descriptor
listed c subsystem port = listed_by (descriptor c subsystem port)

-- ---- what changes

-- a state as a log page has it
abbrev pub state_code : AnaState → ℕ
state_code Optimized = 0x1
state_code NonOptimized = 0x2
state_code Inaccessible = 0x3
state_code PersistentLoss = 0x4
state_code Change = 0xF

-- a group's identifiers rise, so that it holds the same namespaces exactly where the lists are the same
abbrev pub are_same_numbers : List ℕ → List ℕ → Bool
are_same_numbers [] [] = true
are_same_numbers [] (n ∷ ns) = false
are_same_numbers (m ∷ ms) [] = false
are_same_numbers (m ∷ ms) (n ∷ ns) = (m == n) && are_same_numbers ms ns

abbrev pub are_same : Option Descriptor → Option Descriptor → Bool
are_same None None = true
are_same None (Some b) = false
are_same (Some a) None = false
are_same (Some a) (Some b) = (state_code a.state == state_code b.state) && are_same_numbers a.nsids b.nsids

-- whether a group's descriptor changes from one configuration to another, absence being a value
abbrev pub changes_group : Configuration → Configuration → List ℕ → ℕ → ℕ → Bool
changes_group old new subsystem port group = not (are_same (descriptor old subsystem port group) (descriptor new subsystem port group))

-- whether some group from 1 to 32 passes
unfoldable pub any_group : (ℕ → Bool) → Bool
any_group test = list_any test (numbers_from 1 32)

-- whether what the controllers of that subsystem on that port show changes: some group's descriptor does
abbrev pub changes_ana : Configuration → Configuration → List ℕ → ℕ → Bool
changes_ana old new subsystem port = any_group (changes_group old new subsystem port)
