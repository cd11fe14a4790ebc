-- What a controller shows of a configuration, and what an edit changes of that.
use Rattle.std.specs.Prelude.{ℕ, false, List}
use Rattle.event_queue.specs.declared.changes.ViewChanges.{ViewChanges}
use Rattle.nvt_config.specs.Configuration.{Configuration}
use Rattle.nvt_config.specs.SeenBy.{seen_by}
use Rattle.ana_view.specs.Group.{changes_ana}
use Rattle.change_lists.specs.Changes.{changes_namespaces}
use Rattle.discovery_view.specs.View.{changes_discovery}
use Rattle.admin_queue.specs.declared.viewer.Viewer.{Viewer}
use Rattle.admin_queue.specs.declared.viewer.Viewer.TheVariants.{Discovery, Io}

-- A viewer, apart from where its names lie: the discovery log page of a host; the namespaces of a subsystem that a host
-- sees, and its ANA groups of these on a port.
pub data Views : Type 0 where
  discovery : List ℕ → Views
  io : List ℕ → List ℕ → ℕ → Views

abbrev pub views_of : Viewer → Views
views_of (Discovery host) = discovery host.now
views_of (Io host subsystem port) = io host.now subsystem.now port

-- which of them a change from one configuration to another changes, as the host sees both
abbrev pub changes_seen : Configuration → Configuration → Views → ViewChanges
changes_seen old new (discovery host) = record { namespace = false; ana = false; discovery = changes_discovery old new host }
changes_seen old new (io host subsystem port) = record {
  namespace = changes_namespaces (seen_by old host) (seen_by new host) subsystem;
  ana = changes_ana (seen_by old host) (seen_by new host) subsystem port;
  discovery = false;
}
