-- A view of the ANA groups, as its callers see it: of each subsystem on each port the descriptors that a host sees.
use Rattle.std.specs.Prelude.{◌≡◌, ◌<◌, ◌≤◌, ℕ, Bool, ◌&&◌, List, [], Option, Some, None, All, ⊤, is_some, length, nat_eq, unwrap_or, if◌then◌else◌}
use Rattle.std.specs.Map.{lookup}
use Rattle.std.specs.Option.{option_map}
use Rattle.std.specs.Str.{bytes_eq}
use Rattle.config_lists.specs.Namespace.{nsid_max}
use Rattle.config_lists.specs.Show.{is_shown_of}
use Rattle.nvt_config.specs.Configuration.{Configuration}
use Rattle.nvt_config.specs.SeenBy.{seen_by, seen_by_strangers}
use Rattle.tables.specs.NameTable.{Table, value_of}
use Rattle.tables.specs.Variants.{VariantsState, common_at, count_at, own_at, variant_of}
use Rattle.ana_view.specs.Counts.{Counts}
use Rattle.ana_view.specs.Group.{Descriptor, descriptor, listed}
use Rattle.ana_view.specs.Page.{ana_page}

-- the descriptors of a subsystem on some ports, and those on every other
pub record OfSubsystem : Type 0 where
  pub plain : List Descriptor
  pub ports : List (ℕ × List Descriptor)

-- What a view shows: by the name of a subsystem the descriptors of strangers, and those that some hosts have of their own.
-- Callers go by `groups_in` and `page_in` alone: that it is kept as a table is the view's own.
pub record Shown : Type 0 where
  pub subsystems : List (List ℕ × VariantsState OfSubsystem)

-- what a view is: what it shows, and for how many subsystems more it has room
pub record ViewState : Type 0 where
  pub shown : Shown
  pub room : ℕ

abbrev pub groups_on : OfSubsystem → ℕ → List Descriptor
groups_on s port = unwrap_or (lookup (nat_eq port) s.ports) s.plain

abbrev pub groups_at : Option OfSubsystem → ℕ → List Descriptor
groups_at None port = []
groups_at (Some s) port = groups_on s port

-- the descriptors that strangers see of a subsystem on a port: none where the table does not have the subsystem
abbrev pub strangers_in : Shown → List ℕ → ℕ → List Descriptor
strangers_in v subsystem port = groups_at (common_at v.subsystems subsystem) port

-- those of a subsystem that a host has of its own, where it has some
abbrev pub own_in : Shown → List ℕ → List ℕ → Option OfSubsystem
own_in v host subsystem = own_at v.subsystems subsystem host

-- The descriptors that the controllers of a subsystem on a port show to a host: its own on that port, and where it has none
-- of its own what strangers see.
unfoldable pub groups_in : Shown → List ℕ → List ℕ → ℕ → List Descriptor
groups_in v host subsystem port =
    unwrap_or (option_map (λ s. groups_on s port) (own_in v host subsystem)) (strangers_in v subsystem port)

-- their log page, with the counts of one of them
abbrev pub page_in : Shown → List ℕ → List ℕ → ℕ → Counts → Bool → List ℕ
page_in v host subsystem port counts groups_only = ana_page groups_only counts (groups_in v host subsystem port)

-- Each subsystem's descriptors on each port are for each host those of this configuration as the host sees it, and for
-- strangers as they do. A host has descriptors of its own exactly where it is shown a namespace of the subsystem.
pub record ShowsAna (c : Configuration) (v : Shown) : Type 0 where
  pub groups : (host subsystem : List ℕ) (port : ℕ) → groups_in v host subsystem port ≡ listed (seen_by c host) subsystem port
  pub strangers : (subsystem : List ℕ) (port : ℕ) → strangers_in v subsystem port ≡ listed (seen_by_strangers c) subsystem port
  pub own : (host subsystem : List ℕ) → is_some (own_in v host subsystem) ≡ is_shown_of c.shows subsystem host

-- at most 32 groups, and in each no more identifiers than namespaces may have
pub record AreFew (listing : List Descriptor) : Type 0 where
  pub groups : length listing ≤ 32
  pub nsids : All (λ g. length g.nsids ≤ nsid_max) listing

-- the descriptors are those of the subsystem in this configuration, on each port
pub record AreGroupsOf (c : Configuration) (subsystem : List ℕ) (groups : OfSubsystem) : Type 0 where
  pub on_each : (port : ℕ) → groups_on groups port ≡ listed c subsystem port

-- ---- what an edit will make of a view

-- an edit reaches one subsystem for every host: its descriptors before the edit and after it, of strangers and of the hosts
-- that have their own
pub record EveryoneReached : Type 0 where
  pub subsystem : List ℕ
  pub before : VariantsState OfSubsystem
  pub after : VariantsState OfSubsystem

-- it reaches one subsystem for one host: the host's descriptors before and after, whether it has its own after the edit, and
-- the room for them
pub record HostReached : Type 0 where
  pub subsystem : List ℕ
  pub host : List ℕ
  pub before : OfSubsystem
  pub after : OfSubsystem
  pub is_own : Bool
  pub room : Table OfSubsystem

-- .. or nothing
pub data Planned : Type 0 where
  nothing : Planned
  everyone : EveryoneReached → Planned
  one_host : HostReached → Planned

-- the descriptors of a subsystem before an edit, and those after it
pub record BeforeAfter : Type 0 where
  pub before : OfSubsystem
  pub after : OfSubsystem

-- what a plan has of a subsystem for a host, where it reaches it
abbrev pub reached_in : Planned → List ℕ → List ℕ → Option BeforeAfter
reached_in nothing host subsystem = None
reached_in (everyone r) host subsystem =
    if bytes_eq subsystem r.subsystem then Some (record { before = variant_of r.before host; after = variant_of r.after host }) else None
reached_in (one_host r) host subsystem =
    if bytes_eq subsystem r.subsystem && bytes_eq host r.host then Some (record { before = r.before; after = r.after }) else None

-- they are the descriptors of the subsystem in two configurations; where the plan has none, each of them is on each port what
-- it was
abbrev pub AreThoseReached : Configuration → Configuration → List ℕ → Option BeforeAfter → Type 0
AreThoseReached old new subsystem None = (port group : ℕ) → descriptor new subsystem port group ≡ descriptor old subsystem port group
AreThoseReached old new subsystem (Some r) = AreGroupsOf old subsystem r.before × AreGroupsOf new subsystem r.after

-- The plan is that of an edit from one configuration to another: for each host it has the descriptors as the host sees both.
pub record PlansEdit (old new : Configuration) (plan : Planned) : Type 0 where
  pub reached : (host subsystem : List ℕ) → AreThoseReached (seen_by old host) (seen_by new host) subsystem (reached_in plan host subsystem)

-- there is room for what is planned
abbrev pub IsPlannedFor : ViewState → Planned → Type 0
IsPlannedFor v nothing = ⊤
IsPlannedFor v (everyone r) = 1 ≤ v.room
IsPlannedFor v (one_host r) = (1 ≤ v.room) × (r.room.values ≡ []) × (count_at v.shown.subsystems r.subsystem < r.room.room)

-- the host's descriptors where it has its own after the edit
abbrev pub own_after : HostReached → Option OfSubsystem
own_after r = if r.is_own then Some r.after else None

-- strangers and hosts have after a plan what they had, but for what the plan reaches
abbrev pub OwnAfter : Shown → Planned → Shown → Type 0
OwnAfter old nothing new = (host subsystem : List ℕ) → own_in new host subsystem ≡ own_in old host subsystem
OwnAfter old (everyone r) new = (host subsystem : List ℕ)
    → own_in new host subsystem ≡ (if bytes_eq subsystem r.subsystem then value_of r.after.own host else own_in old host subsystem)
OwnAfter old (one_host r) new = (host subsystem : List ℕ)
    → own_in new host subsystem ≡ (if bytes_eq subsystem r.subsystem && bytes_eq host r.host then own_after r else own_in old host subsystem)

abbrev pub StrangersAfter : Shown → Planned → Shown → Type 0
StrangersAfter old nothing new = (subsystem : List ℕ) (port : ℕ) → strangers_in new subsystem port ≡ strangers_in old subsystem port
StrangersAfter old (everyone r) new = (subsystem : List ℕ) (port : ℕ)
    → strangers_in new subsystem port ≡ (if bytes_eq subsystem r.subsystem then groups_on r.after.common port else strangers_in old subsystem port)
StrangersAfter old (one_host r) new = (subsystem : List ℕ) (port : ℕ) → strangers_in new subsystem port ≡ strangers_in old subsystem port

pub record IsShownAfter (old : Shown) (plan : Planned) (new : Shown) : Type 0 where
  pub own : OwnAfter old plan new
  pub strangers : StrangersAfter old plan new

-- so that it comes to show a configuration
abbrev pub LeadsTo : Configuration → Shown → Planned → Type 0
LeadsTo next old plan = (new : Shown) → IsShownAfter old plan new → ShowsAna next new
