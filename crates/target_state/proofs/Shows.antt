-- The views go on as the history does.
use Rattle.std.proofs.Common.{◌≡◌, ℕ, Bool, List, [], ◌∷◌, IfOk, Result, Ok, Err, length, map, refl, sym, ap, ◌∙◌}
use Rattle.std.proofs.Math.Path.{fun_ext}
use Rattle.admin_queue.specs.Pages.{Pages}
use Rattle.ana_view.specs.Counts.{Counts}
use Rattle.ana_view.specs.Page.{ana_page}
use Rattle.ana_view.specs.View.{LeadsTo as AnaLeadsTo, Planned as AnaPlanned, PlansEdit as PlansAna, page_in as ana_page_in}
use Rattle.change_lists.specs.ActiveView.{LeadsTo as ActiveLeadsTo, Planned as ActivePlanned, PlansEdit as PlansActive, active_page}
use Rattle.config_lists.specs.declared.fault.EditFault.{EditFault}
use Rattle.discovery_view.specs.View.{page_in}
use Rattle.discovery_view.proofs.Counts.{count_goes_on}
use Rattle.nvt_config.specs.Configuration.{Configuration, disks_alone}
use Rattle.admin_queue.specs.Planned.{Plans}
use Rattle.target_state.specs.Views.{AreViewsOf, LeadTo, ListsLeadTo, PlansState, ShowAfter, ShowFirst, ShowHistory, ViewsShown, ViewsState, pages_shown, planned_by}
use Rattle.target_history.specs.Event.{Event, edited, opened, stepped, given_up, ticked}
use Rattle.target_history.specs.Occurrence.{Occurrence, config_after}
use Rattle.target_history.specs.History.{Opening, active_of, config_of, generation_of, groups_page_of, page_of, pages_of}

-- what was planned is what is told
pub plans_told : (c next : Configuration) (v : ViewsState) (plans : PlansState) → AreViewsOf c v → LeadTo c next v plans → Plans c next (planned_by v plans)
plans_told c next v plans of lead = record {
  of = of.discovery;
  leads = lead.discovery;
  active = lead.lists.active;
  ana = lead.lists.ana;
}

all_three : (a b : List ℕ → List ℕ) (c d : List ℕ → List ℕ → ℕ → List ℕ) (e f : List ℕ → List ℕ → ℕ → Counts → Bool → List ℕ) → a ≡ b → c ≡ d → e ≡ f
    → (let p : Pages = record { discovery = a; active = c; ana = e } in p) ≡ (let p : Pages = record { discovery = b; active = d; ana = f } in p)
all_three a b c d e f h k l = rw (h, k, l) refl

-- the pages of views that show a history
pub pages_agree : (v : ViewsShown) (disks : Opening) (before : List Occurrence) → ShowHistory v disks before → pages_shown v ≡ pages_of disks before
pages_agree v disks before show =
    all_three (page_in v.discovery) (page_of disks before) (active_page v.active) (active_of disks before) (ana_page_in v.ana) (groups_page_of disks before)
    (fun_ext (λ host. rw (show.counts host, show.records host) refl))
    (fun_ext (λ host. fun_ext (λ subsystem. fun_ext (λ above. rw (show.nsids host subsystem) refl))))
    (fun_ext (λ host. fun_ext (λ subsystem. fun_ext (λ port. fun_ext (λ counts. fun_ext (λ groups_only. ap (ana_page groups_only counts) (show.groups host subsystem port)))))))

stays : (old new : ViewsShown) (disks : Opening) (before after : List Occurrence) → config_of disks after ≡ config_of disks before
    → generation_of disks after ≡ generation_of disks before → new ≡ old → ShowHistory old disks before → ShowHistory new disks after
stays old new disks before after config generation same show =
    rw same (record {
      records = λ host. rw config (show.records host);
      counts = λ host. rw generation (show.counts host);
      nsids = λ host subsystem. rw config (show.nsids host subsystem);
      groups = λ host subsystem port. rw config (show.groups host subsystem port);
    })

-- what an event would have been
abbrev over : Occurrence → Event → Occurrence
over x event = record { event = event; world = x.world; connection = x.connection; parts = x.parts; clock = x.clock; blocks = x.blocks }

-- one more event
pub views_step : (x : Occurrence) (old new : ViewsShown) (disks : Opening) (before : List Occurrence)
    → ShowAfter x.event (config_of disks (x ∷ before)) old new → ShowHistory old disks before → ShowHistory new disks (x ∷ before)
views_step x old new disks before after show = by x.event after where
  by : (event : Event) → ShowAfter event (config_after event (config_of disks before)) old new
      → ShowHistory new disks (over x event ∷ before)
  by (edited edit) after = record {
    records = λ host. after.discovery.records host;
    counts = λ host. after.discovery.counts host
        ∙ rw (after.discovery.records host, show.records host, show.counts host)
        (sym (count_goes_on (config_of disks before) (config_after (edited edit) (config_of disks before)) host (generation_of disks before host)));
    nsids = λ host subsystem. after.active.nsids host subsystem;
    groups = λ host subsystem port. after.ana.groups host subsystem port;
  }
  by (opened port k) after = stays old new disks before (over x (opened port k) ∷ before) refl refl after show
  by (stepped k found m) after = stays old new disks before (over x (stepped k found m) ∷ before) refl refl after show
  by (given_up k) after = stays old new disks before (over x (given_up k) ∷ before) refl refl after show
  by (ticked now) after = stays old new disks before (over x (ticked now) ∷ before) refl refl after show

pub new_show : (v : ViewsShown) (disks : Opening) → ShowFirst (disks_alone (map length disks)) v → ShowHistory v disks []
new_show v disks first = record { records = first.discovery.records; counts = first.discovery.counts; nsids = first.active.nsids; groups = first.ana.groups }

-- plans of the lists and of the groups of an edit lead together, where it is accepted
pub lists_lead : (c : Configuration) (v : ViewsShown) (accepted : Result Configuration EditFault) (lists : ActivePlanned) (groups : AnaPlanned)
    → IfOk accepted (λ next. PlansActive c next lists) → IfOk accepted (λ next. ActiveLeadsTo next v.active lists)
    → IfOk accepted (λ next. PlansAna c next groups) → IfOk accepted (λ next. AnaLeadsTo next v.ana groups)
    → IfOk accepted (λ next. ListsLeadTo c next v lists groups)
lists_lead c v (Ok next) lists groups active active_next ana ana_next =
    record { active = active; active_next = active_next; ana = ana; ana_next = ana_next }
lists_lead c v (Err fault) lists groups active active_next ana ana_next = tt
