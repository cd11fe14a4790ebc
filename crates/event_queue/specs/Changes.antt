-- Which of a controller's views an edit changes, and what it is an event for.
use Rattle.std.specs.Prelude.{Bool, not, ◌&&◌}
use Rattle.event_queue.specs.declared.changes.ViewChanges.{ViewChanges}
use Rattle.event_queue.specs.declared.kind.EventKind.{EventKind}
use Rattle.event_queue.specs.declared.kind.EventKind.TheVariants.{Namespace, Ana, Discovery}

-- whether it changes the view that a kind tells of
abbrev pub changes_view : ViewChanges → EventKind → Bool
changes_view x Namespace = x.namespace
changes_view x Ana = x.ana
changes_view x Discovery = x.discovery

-- Whether an edit that changes these views is an event for a kind, where these kinds are enabled: it changes the
-- kind's view, and the kind is enabled. A namespace that comes or goes changes what the Asymmetric Namespace Access
-- log page shows too: that is told once, by the namespace's kind where that is enabled.
abbrev pub counts_for : (EventKind → Bool) → ViewChanges → EventKind → Bool
counts_for enabled x Namespace = x.namespace && enabled Namespace
counts_for enabled x Ana = x.ana && (enabled Ana && not (x.namespace && enabled Namespace))
counts_for enabled x Discovery = x.discovery && enabled Discovery
