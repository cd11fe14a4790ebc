-- Which namespaces changed, by all that happened to a controller since its beginning.
use Rattle.std.specs.Prelude.{◌≡◌, ◌≤◌, ℕ, Bool, true, false, not, ◌==◌, ◌||◌, ◌&&◌, List, [], ◌∷◌, Option, Some, None, find, nat_eq}
use Rattle.std.specs.List.{list_any}
use Rattle.std.specs.Option.{option_map}
use Rattle.std.specs.Str.{bytes_eq}
use Rattle.config_lists.specs.declared.namespace.Namespace.{Namespace}
use Rattle.config_lists.specs.Namespace.{bytes_of, is_named, nsid_max}
use Rattle.nvt_config.specs.Configuration.{Configuration}
use Rattle.config_lists.specs.Numbered.{nsids_where}
use Rattle.change_lists.specs.ChangedSet.{with_nsids}

-- what a host is told to have changed of a namespace: its size in blocks, the bytes of a block, and its UUID
pub record Attributes : Type 0 where
  pub blocks : ℕ
  pub block_size : ℕ
  pub uuid : List ℕ

abbrev pub attributes_of : Namespace → Attributes
attributes_of n = record { blocks = n.blocks; block_size = bytes_of n.block_size; uuid = n.uuid }

-- those of the namespace of that subsystem and that identifier, where it is there
abbrev pub attributes_in : Configuration → List ℕ → ℕ → Option Attributes
attributes_in c subsystem nsid = option_map attributes_of (find (is_named subsystem nsid) c.namespaces)

abbrev pub are_same : Option Attributes → Option Attributes → Bool
are_same None None = true
are_same None (Some b) = false
are_same (Some a) None = false
are_same (Some a) (Some b) = (a.blocks == b.blocks) && ((a.block_size == b.block_size) && bytes_eq a.uuid b.uuid)

-- whether size, block size, UUID or presence of a namespace changes from one configuration to another
abbrev pub changes_namespace : Configuration → Configuration → List ℕ → ℕ → Bool
changes_namespace old new subsystem nsid = not (are_same (attributes_in old subsystem nsid) (attributes_in new subsystem nsid))

-- .. of any namespace of the subsystem
abbrev pub changes_namespaces : Configuration → Configuration → List ℕ → Bool
changes_namespaces old new subsystem = list_any (λ _. true) (nsids_where (changes_namespace old new subsystem))

-- the set after a change from one configuration to another: with each identifier of the subsystem that it changes
abbrev pub with_changes : Configuration → Configuration → List ℕ → List ℕ → List ℕ
with_changes old new subsystem set = nsids_where (λ n. changes_namespace old new subsystem n || list_any (nat_eq n) set)

-- an edit made of one configuration another; the set was emptied, by a read of the whole list or as the controller was
-- enabled
pub data Occurrence : Type 0 where
  edited : Configuration → Configuration → Occurrence
  emptied : Occurrence

-- whether a namespace of a subsystem changed by some edit since the set was last emptied; of what happened the newest
-- stands first
abbrev pub is_changed : List Occurrence → List ℕ → ℕ → Bool
is_changed [] subsystem nsid = false
is_changed (edited old new ∷ before) subsystem nsid = changes_namespace old new subsystem nsid || is_changed before subsystem nsid
is_changed (emptied ∷ before) subsystem nsid = false

-- the identifiers of those that did, rising
abbrev pub changed_nsids : List Occurrence → List ℕ → List ℕ
changed_nsids happened subsystem = nsids_where (is_changed happened subsystem)

-- these are the identifiers that a change from one configuration to another changes, among those that a namespace may
-- have
abbrev pub AreChangedBy : Configuration → Configuration → List ℕ → List ℕ → Type 0
AreChangedBy old new subsystem nsids =
    (nsid : ℕ) → 1 ≤ nsid → nsid ≤ nsid_max → list_any (nat_eq nsid) nsids ≡ changes_namespace old new subsystem nsid

-- Whatever happened: the set is empty at first and once it is emptied; where each edit's identifiers are noted, in any
-- order, it has exactly those that changed since it was last emptied. What goes and comes back as it was has changed.
pub record ChangesAreNoted : Type 0 where
  pub first : (subsystem : List ℕ) → changed_nsids [] subsystem ≡ []
  pub once_emptied : (before : List Occurrence) (subsystem : List ℕ) → changed_nsids (emptied ∷ before) subsystem ≡ []
  pub after_edit : (before : List Occurrence) (old new : Configuration) (subsystem nsids : List ℕ) → AreChangedBy old new subsystem nsids
      → changed_nsids (edited old new ∷ before) subsystem ≡ with_nsids nsids (changed_nsids before subsystem)
  pub after_changes : (before : List Occurrence) (old new : Configuration) (subsystem : List ℕ)
      → changed_nsids (edited old new ∷ before) subsystem ≡ with_changes old new subsystem (changed_nsids before subsystem)
  pub come_back : (before : List Occurrence) (old new : Configuration) (subsystem : List ℕ) (nsid : ℕ) → changes_namespace old new subsystem nsid ≡ true
      → is_changed (edited new old ∷ edited old new ∷ before) subsystem nsid ≡ true
