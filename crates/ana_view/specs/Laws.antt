-- Laws of what controllers show of ANA groups, and of their change counts.
use Rattle.std.specs.Prelude.{◌≡◌, ◌<◌, ◌↔◌, ℕ, List, [], ◌∷◌, AllPairs, Contains}
use Rattle.config_lists.specs.declared.namespace.Namespace.{Namespace}
use Rattle.config_lists.specs.GroupState.{state_for}
use Rattle.nvt_config.specs.Configuration.{Configuration}
use Rattle.nvt_config.specs.SeenBy.{SeesNamespace, seen_by}
use Rattle.nvt_config.specs.Valid.{IsValid}
use Rattle.ana_view.specs.Changes.{Occurrence, counts_of, edited, enabled}
use Rattle.ana_view.specs.Counts.{counts_after, no_changes}
use Rattle.ana_view.specs.Group.{Descriptor, listed}

-- the configuration has a namespace of that subsystem and that identifier in that group, and the host sees it
abbrev pub IsInGroup : Configuration → List ℕ → List ℕ → ℕ → ℕ → Type 0
IsInGroup c host subsystem group nsid =
    (n : Namespace) × Contains c.namespaces n × SeesNamespace c host n × (n.subsystem ≡ subsystem) × (n.nsid ≡ nsid) × (n.group ≡ group)

-- each group has the state that was set for it, and exactly the subsystem's namespaces that are in it and that the host
-- sees, rising
pub record IsShownAs (c : Configuration) (host subsystem : List ℕ) (port : ℕ) (g : Descriptor) : Type 0 where
  pub state : g.state ≡ state_for port subsystem g.id c.states
  pub rising : AllPairs ◌<◌ g.nsids
  pub nsids : (nsid : ℕ) → Contains g.nsids nsid ↔ IsInGroup c host subsystem g.id nsid

-- Groups rise, and none is there twice; a group is there exactly where it holds a namespace of the subsystem that the host
-- sees.
pub record IsAnaListing (c : Configuration) (host subsystem : List ℕ) (port : ℕ) (groups : List Descriptor) : Type 0 where
  pub rising : AllPairs (λ a b. a.id < b.id) groups
  pub shown : (g : Descriptor) → Contains groups g → IsShownAs c host subsystem port g
  pub held : (group nsid : ℕ) → IsInGroup c host subsystem group nsid → (g : Descriptor) × Contains groups g × (g.id ≡ group)

abbrev pub GroupsAreListed : Type 0
GroupsAreListed = (c : Configuration) (host subsystem : List ℕ) (port : ℕ) → IsValid c
    → IsAnaListing c host subsystem port (listed (seen_by c host) subsystem port)

-- Whatever happened: the counts are 0 at first and once the controller is enabled, and each edit makes of them what
-- the edits since then say.
pub record ChangesAreCounted : Type 0 where
  pub first : (subsystem : List ℕ) (port : ℕ) → counts_of [] subsystem port ≡ no_changes
  pub once_enabled : (before : List Occurrence) (subsystem : List ℕ) (port : ℕ) → counts_of (enabled ∷ before) subsystem port ≡ no_changes
  pub after_edit : (before : List Occurrence) (old new : Configuration) (subsystem : List ℕ) (port : ℕ)
      → counts_of (edited old new ∷ before) subsystem port ≡ counts_after old new subsystem port (counts_of before subsystem port)
