use Rattle.std.proofs.Common.{◌≡◌, ◌||◌, ◌++◌, drop}
use Rattle.nvt_config.specs.Permission.{is_open_subsystem}
use Rattle.discovery_view.specs.Allowed.{is_named}
use Rattle.discovery_view.specs.Catalog.{catalog_of, is_referral, places_by, places_from}
use Rattle.discovery_view.proofs.ready.shown_places.Given as goal

-- with the places that are left they are all
abbrev pub invariant-loop-place : goal.invariant-loop-place
invariant-loop-place l =
    l.places.items ++ places_from (λ p. is_referral p.subtype || (is_open_subsystem l.catalog.subsystems p.nqn || is_named l.names p.nqn)) l.place (drop l.place (catalog_of l.catalog)) ≡ places_by l.catalog l.names
