-- What a log page shows, as it is taken from a configuration: by identifier the namespaces of a subsystem, and by
-- group its states on a port.
use Rattle.std.specs.Prelude.{◌≡◌, ◌<◌, ◌≤◌, ℕ, Bool, List, [], ◌∷◌, ◌++◌, Option, None, Vec, find, map, slice_index_or, slice_set}
use Rattle.std.specs.declared.alloc.Global.{Global}
use Rattle.config_lists.specs.declared.group_state.AnaState.{AnaState}
use Rattle.config_lists.specs.declared.group_state.AnaState.TheVariants.{Optimized}
use Rattle.config_lists.specs.declared.namespace.Namespace.{Namespace}
use Rattle.config_lists.specs.Namespace.{is_named, nsid_max}
use Rattle.nvt_config.specs.Configuration.{Configuration}
use Rattle.config_lists.specs.Numbered.{nsids_where}
use Rattle.ana_view.specs.declared.groups.Groups.{Groups}
use Rattle.ana_view.specs.Group.{Descriptor, descriptor_with, is_in_group, listed_by}

-- by identifier, they are the namespaces of the subsystem
pub record AreNamespacesOf (c : Configuration) (subsystem : List ℕ) (namespaces : List (Option Namespace)) : Type 0 where
  pub found : (nsid : ℕ) → nsid ≤ nsid_max → slice_index_or namespaces nsid None ≡ find (is_named subsystem nsid) c.namespaces

abbrev pub is_member : List (Option Namespace) → ℕ → ℕ → Bool
is_member namespaces nsid group = is_in_group (slice_index_or namespaces nsid None) group

-- the identifiers in a group, rising
unfoldable pub nsids_of : Groups → ℕ → List ℕ
nsids_of t group = nsids_where (λ nsid. is_member t.namespaces.now nsid group)

-- a group can be used without any setting: it is optimized unless the operator set another state for it on the port
abbrev pub state_of : Groups → ℕ → AnaState
state_of t group = slice_index_or t.states group Optimized

abbrev pub descriptor_of : Groups → ℕ → Option Descriptor
descriptor_of t group = descriptor_with group (state_of t group) (nsids_of t group)

abbrev pub listing_of : Groups → List Descriptor
listing_of t = listed_by (descriptor_of t)

-- the group as it is shown where it holds a namespace
abbrev pub shown_of : Groups → ℕ → Descriptor
shown_of t group = record { id = group; state = state_of t group; nsids = nsids_of t group }

-- what each vector holds
abbrev pub each_of : Vec (Vec ℕ Global) Global → List (List ℕ)
each_of vectors = map (λ v. v.items) vectors.items

-- by group, the identifiers in it
abbrev pub AreMembers : Groups → List (List ℕ) → Type 0
AreMembers t members = (group : ℕ) → group < 33 → slice_index_or members group [] ≡ nsids_of t group

-- with one more in a group
abbrev pub with_member : ℕ → ℕ → List (List ℕ) → List (List ℕ)
with_member group nsid members = slice_set members group (slice_index_or members group [] ++ nsid ∷ [])
