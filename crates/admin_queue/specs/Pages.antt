-- The views that log pages and lists are written from.
use Rattle.std.specs.Prelude.{ℕ, Bool, List, [], Option, Some, None}
use Rattle.ana_view.specs.Counts.{Counts}
use Rattle.ana_view.specs.View.{page_in as ana_page_in}
use Rattle.change_lists.specs.ActiveView.{active_page}
use Rattle.change_lists.specs.ChangedSet.{changed_page}
use Rattle.discovery_view.specs.View.{page_in}
use Rattle.admin_queue.specs.declared.log.LogPage.{LogPage}
use Rattle.admin_queue.specs.declared.log.LogPage.TheVariants.{Discovery, ChangedNamespaces, AnaGroups}
use Rattle.admin_queue.specs.declared.pages.Pages.{Pages as PagesLent}
use Rattle.admin_queue.specs.Controller.{AdminController}

-- A function for each page that there is: the discovery log page of each host; for each host the list of each subsystem's
-- active namespaces above an identifier, and the Asymmetric Namespace Access log page of each subsystem on each port, with
-- these counts, with or without identifiers.
pub record Pages : Type 0 where
  pub discovery : List ℕ → List ℕ
  pub active : List ℕ → List ℕ → ℕ → List ℕ
  pub ana : List ℕ → List ℕ → ℕ → Counts → Bool → List ℕ

-- the pages that views lend
abbrev pub pages_in : PagesLent → Pages
pages_in p = record {
  discovery = page_in p.discovery.now.shown;
  active = active_page p.active.now.shown;
  ana = ana_page_in p.ana.now.shown;
}

-- a discovery controller has no ANA groups
abbrev pub ana_groups : Option (List ℕ) → Pages → AdminController → Bool → List ℕ
ana_groups None pages c groups_only = []
ana_groups (Some subsystem) pages c groups_only = pages.ana c.host subsystem c.port c.notices.counts groups_only

-- the log page of this name
abbrev pub log_page_bytes : LogPage → Pages → AdminController → List ℕ
log_page_bytes Discovery pages c = pages.discovery c.host
log_page_bytes ChangedNamespaces pages c = changed_page c.notices.changed
log_page_bytes (AnaGroups groups_only) pages c = ana_groups c.subsystem pages c groups_only
