-- The views that log pages are written from, as the target sees them.
use Rattle.std.specs.Prelude.{◌≡◌, ◌≤◌, ℕ, ◌+◌, ◌%◌, ◌^◌, List}
use Rattle.admin_queue.specs.Pages.{Pages}
use Rattle.ana_view.specs.Group.{listed}
use Rattle.ana_view.specs.View.{IsPlannedFor as AnaIsPlannedFor, IsShownAfter as AnaIsShownAfter, Planned as AnaPlanned, PlansEdit as PlansAna, Shown as AnaShown, ShowsAna, ViewState as AnaState, groups_in, page_in as ana_page_in}
use Rattle.change_lists.specs.ActiveView.{IsPlannedFor as ActiveIsPlannedFor, LeadsTo as ActiveLeadsTo, Planned as ActivePlanned, PlansEdit as PlansActive, Shown as ActiveShown, ShowsActive, ViewState as ActiveState, active_page, nsids_in}
use Rattle.admin_queue.specs.Planned.{PlanState}
use Rattle.config_lists.specs.Numbered.{active_nsids}
use Rattle.discovery_view.specs.Forming.{reach}
use Rattle.discovery_view.specs.Plan.{IsPlannedFor, LeadsTo, Planned}
use Rattle.discovery_view.specs.Ready.{AreOf, Places}
use Rattle.discovery_view.specs.Record.{Parts}
use Rattle.discovery_view.specs.Records.{records_of}
use Rattle.discovery_view.specs.View.{Rows, Shown, ShowsFirst, ShowsNext, count_in, page_in, records_in}
use Rattle.nvt_config.specs.Configuration.{Configuration}
use Rattle.target_history.specs.Event.{Event, edited, opened, stepped, given_up, ticked}
use Rattle.target_history.specs.Occurrence.{Occurrence}
use Rattle.target_history.specs.History.{Opening, config_of, config_seen, generation_of}

-- what each view shows; a further log page is a field more, here and below
pub record ViewsShown : Type 0 where
  pub discovery : Shown
  pub active : ActiveShown
  pub ana : AnaShown

-- the views, as contracts see them: what they show, and the discovery view's table of records, the rows of places in it,
-- for how many more records it has room, and how many it formed; and the room of the other two
pub record ViewsState : Type 0 where
  pub shown : ViewsShown
  pub slots : List Parts
  pub rows : Rows Places
  pub room : ℕ
  pub formed : ℕ
  pub active_room : ℕ
  pub ana_room : ℕ

-- the view of the lists by itself, and that of the groups
abbrev pub active_state : ViewsState → ActiveState
active_state v = record { shown = v.shown.active; room = v.active_room }

abbrev pub ana_state : ViewsState → AnaState
ana_state v = record { shown = v.shown.ana; room = v.ana_room }

-- what an edit will make of them, each view as it planned
pub record PlansState : Type 0 where
  pub discovery : Planned
  pub active : ActivePlanned
  pub ana : AnaPlanned

-- the edit as it is told
abbrev pub planned_by : ViewsState → PlansState → PlanState
planned_by v plans = record {
  view = record { shown = v.shown.discovery; slots = v.slots; rows = v.rows; room = v.room; formed = v.formed };
  discovery = plans.discovery;
  active = plans.active;
  ana = plans.ana;
}

-- for each host its discovery log page, the lists of each subsystem, and its ANA groups on each port
abbrev pub pages_shown : ViewsShown → Pages
pages_shown v = record { discovery = page_in v.discovery; active = active_page v.active; ana = ana_page_in v.ana }

-- they show this configuration, which no edit has changed yet
pub record ShowFirst (c : Configuration) (v : ViewsShown) : Type 0 where
  pub discovery : ShowsFirst c v.discovery
  pub active : ShowsActive c v.active
  pub ana : ShowsAna c v.ana

-- they have gone over to this configuration, which an edit made
pub record ShowNext (c : Configuration) (old new : ViewsShown) : Type 0 where
  pub discovery : ShowsNext c old.discovery new.discovery
  pub active : ShowsActive c new.active
  pub ana : ShowsAna c new.ana

-- they are the views of this configuration
pub record AreViewsOf (c : Configuration) (v : ViewsState) : Type 0 where
  pub discovery : AreOf c v.slots v.rows
  pub active : ShowsActive c v.shown.active
  pub ana : ShowsAna c v.shown.ana

-- the plans are for these views, which have room for what is planned
pub record ArePlannedFor (v : ViewsState) (plans : PlansState) : Type 0 where
  pub discovery : IsPlannedFor v.slots v.rows v.room plans.discovery
  pub active : ActiveIsPlannedFor (active_state v) plans.active
  pub ana : AnaIsPlannedFor (ana_state v) plans.ana

-- the plans of the lists and of the groups are those of an edit from one configuration to another, and these views come to
-- show the second
pub record ListsLeadTo (c next : Configuration) (v : ViewsShown) (lists : ActivePlanned) (groups : AnaPlanned) : Type 0 where
  pub active : PlansActive c next lists
  pub active_next : ActiveLeadsTo next v.active lists
  pub ana : PlansAna c next groups
  pub ana_next : (new : AnaShown) → AnaIsShownAfter v.ana groups new → ShowsAna next new

-- .. and so those of all views
pub record LeadTo (c next : Configuration) (v : ViewsState) (plans : PlansState) : Type 0 where
  pub discovery : LeadsTo next v.shown.discovery v.slots v.rows plans.discovery
  pub lists : ListsLeadTo c next v.shown plans.active plans.ana

-- what they show after an event, with the configuration after it: it changes by edits alone
abbrev pub ShowAfter : Event → Configuration → ViewsShown → ViewsShown → Type 0
ShowAfter (edited edit) c old new = ShowNext c old new
ShowAfter (opened port n) c old new = new ≡ old
ShowAfter (stepped n found m) c old new = new ≡ old
ShowAfter (given_up n) c old new = new ≡ old
ShowAfter (ticked now) c old new = new ≡ old

-- How many records of the discovery log page they have formed after an event, with the configuration before it: an edit
-- forms no more than it reaches, and nothing else forms any.
abbrev pub FormedAfter : Event → Configuration → ℕ → ℕ → Type 0
FormedAfter (edited edit) c old new = new ≤ old + reach c edit
FormedAfter (opened port n) c old new = new ≡ old
FormedAfter (stepped n found m) c old new = new ≡ old
FormedAfter (given_up n) c old new = new ≡ old
FormedAfter (ticked now) c old new = new ≡ old

-- they show what a history says: the discovery view each host the records of the configuration, and the
-- number of the edits that changed them; the list of active namespaces those of the configuration that the host sees, and
-- the ANA groups too
pub record ShowHistory (v : ViewsShown) (disks : Opening) (happened : List Occurrence) : Type 0 where
  pub records : (host : List ℕ) → records_in v.discovery host ≡ records_of (config_of disks happened) host
  pub counts : (host : List ℕ) → count_in v.discovery host ≡ generation_of disks happened host % 2 ^ 64
  pub nsids : (host subsystem : List ℕ) → nsids_in v.active host subsystem ≡ active_nsids (config_seen disks happened host).namespaces subsystem
  pub groups : (host subsystem : List ℕ) (port : ℕ) → groups_in v.ana host subsystem port ≡ listed (config_seen disks happened host) subsystem port
