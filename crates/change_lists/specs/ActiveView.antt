-- A view of the active namespaces, as its callers see it: of each subsystem the identifiers of its namespaces that a host
-- sees.
use Rattle.std.specs.Prelude.{◌≡◌, ◌<◌, ◌≤◌, ℕ, Bool, false, ◌&&◌, List, [], Option, Some, None, ⊤, is_some, if◌then◌else◌, unwrap_or}
use Rattle.std.specs.Str.{bytes_eq}
use Rattle.config_lists.specs.Show.{is_shown_of}
use Rattle.nvt_config.specs.Configuration.{Configuration}
use Rattle.nvt_config.specs.SeenBy.{seen_by, seen_by_strangers}
use Rattle.config_lists.specs.Numbered.{active_nsids, nsids_where}
use Rattle.tables.specs.NameTable.{Table, value_of}
use Rattle.tables.specs.Variants.{VariantsState, common_at, count_at, own_at, variant_of}
use Rattle.change_lists.specs.ActiveList.{list_page, nsids_above}
use Rattle.change_lists.specs.Changes.{changes_namespace}

-- What a view shows: by the name of a subsystem the list of strangers, and those that some hosts have of their own. Callers
-- go by `nsids_in` and `active_page` alone: that it is kept as a table is the view's own.
pub record Shown : Type 0 where
  pub lists : List (List ℕ × VariantsState (List ℕ))

-- .. and for how many more subsystems it has room
pub record ViewState : Type 0 where
  pub shown : Shown
  pub room : ℕ

-- the identifiers of a subsystem's namespaces that strangers see: none where the table does not have the subsystem
abbrev pub strangers_in : Shown → List ℕ → List ℕ
strangers_in v subsystem = unwrap_or (common_at v.lists subsystem) []

-- .. that a host sees, where it has a list of its own
abbrev pub own_in : Shown → List ℕ → List ℕ → Option (List ℕ)
own_in v host subsystem = own_at v.lists subsystem host

-- .. that a host sees: what strangers see, where it has none of its own
unfoldable pub nsids_in : Shown → List ℕ → List ℕ → List ℕ
nsids_in v host subsystem = unwrap_or (own_in v host subsystem) (strangers_in v subsystem)

-- the Active Namespace ID list of a subsystem above an identifier, as a host sees it
abbrev pub active_page : Shown → List ℕ → List ℕ → ℕ → List ℕ
active_page v host subsystem above = list_page (nsids_above above (nsids_in v host subsystem))

-- Each subsystem's list is for each host the one of this configuration as the host sees it, and for strangers as they do. A
-- host has a list of its own exactly where it is shown a namespace of the subsystem.
pub record ShowsActive (c : Configuration) (v : Shown) : Type 0 where
  pub nsids : (host subsystem : List ℕ) → let seen = seen_by c host in nsids_in v host subsystem ≡ active_nsids seen.namespaces subsystem
  pub strangers : (subsystem : List ℕ) → let seen = seen_by_strangers c in strangers_in v subsystem ≡ active_nsids seen.namespaces subsystem
  pub own : (host subsystem : List ℕ) → is_some (own_in v host subsystem) ≡ is_shown_of c.shows subsystem host

-- ---- what an edit will make of a view

-- an edit reaches one subsystem for every host: the lists of its namespaces after the edit, and of those that the edit
-- changes, of strangers and of the hosts that have their own
pub record EveryoneReached : Type 0 where
  pub subsystem : List ℕ
  pub lists : VariantsState (List ℕ)
  pub changed : VariantsState (List ℕ)

-- it reaches one subsystem for one host: the host's lists, whether it has its own after the edit, and the room for one
pub record HostReached : Type 0 where
  pub subsystem : List ℕ
  pub host : List ℕ
  pub nsids : List ℕ
  pub changed : List ℕ
  pub is_own : Bool
  pub room : Table (List ℕ)

-- .. or nothing
pub data Planned : Type 0 where
  nothing : Planned
  everyone : EveryoneReached → Planned
  one_host : HostReached → Planned

-- the identifiers of a subsystem's namespaces that the edit changes for a host, where the plan reaches them
abbrev pub changed_in : Planned → List ℕ → List ℕ → Option (List ℕ)
changed_in nothing host subsystem = None
changed_in (everyone r) host subsystem = if bytes_eq subsystem r.subsystem then Some (variant_of r.changed host) else None
changed_in (one_host r) host subsystem = if bytes_eq subsystem r.subsystem && bytes_eq host r.host then Some r.changed else None

-- they are those that a change from one configuration to another changes for the host; where the plan has none, none is
abbrev pub AreThoseChanged : Configuration → Configuration → List ℕ → Option (List ℕ) → Type 0
AreThoseChanged old new subsystem None = (nsid : ℕ) → changes_namespace old new subsystem nsid ≡ false
AreThoseChanged old new subsystem (Some changed) = changed ≡ nsids_where (changes_namespace old new subsystem)

-- The plan is that of an edit from one configuration to another: for each host it has what changes as the host sees both.
pub record PlansEdit (old new : Configuration) (plan : Planned) : Type 0 where
  pub changed : (host subsystem : List ℕ) → AreThoseChanged (seen_by old host) (seen_by new host) subsystem (changed_in plan host subsystem)

-- there is room for what is planned
abbrev pub IsPlannedFor : ViewState → Planned → Type 0
IsPlannedFor v nothing = ⊤
IsPlannedFor v (everyone r) = 1 ≤ v.room
IsPlannedFor v (one_host r) = (1 ≤ v.room) × (r.room.values ≡ []) × (count_at v.shown.lists r.subsystem < r.room.room)

-- the host's list where it has its own after the edit
abbrev pub own_after : HostReached → Option (List ℕ)
own_after r = if r.is_own then Some r.nsids else None

-- strangers and hosts have after a plan what they had, but for what the plan reaches
abbrev pub OwnAfter : Shown → Planned → Shown → Type 0
OwnAfter old nothing new = (host subsystem : List ℕ) → own_in new host subsystem ≡ own_in old host subsystem
OwnAfter old (everyone r) new = (host subsystem : List ℕ)
    → own_in new host subsystem ≡ (if bytes_eq subsystem r.subsystem then value_of r.lists.own host else own_in old host subsystem)
OwnAfter old (one_host r) new = (host subsystem : List ℕ)
    → own_in new host subsystem ≡ (if bytes_eq subsystem r.subsystem && bytes_eq host r.host then own_after r else own_in old host subsystem)

abbrev pub StrangersAfter : Shown → Planned → Shown → Type 0
StrangersAfter old nothing new = (subsystem : List ℕ) → strangers_in new subsystem ≡ strangers_in old subsystem
StrangersAfter old (everyone r) new = (subsystem : List ℕ)
    → strangers_in new subsystem ≡ (if bytes_eq subsystem r.subsystem then r.lists.common else strangers_in old subsystem)
StrangersAfter old (one_host r) new = (subsystem : List ℕ) → strangers_in new subsystem ≡ strangers_in old subsystem

pub record IsShownAfter (old : Shown) (plan : Planned) (new : Shown) : Type 0 where
  pub own : OwnAfter old plan new
  pub strangers : StrangersAfter old plan new

-- so that it comes to show a configuration
abbrev pub LeadsTo : Configuration → Shown → Planned → Type 0
LeadsTo next old plan = (new : Shown) → IsShownAfter old plan new → ShowsActive next new
