use Rattle.std.proofs.Common.{◌||◌, refl}
use Rattle.nvt_config.specs.Permission.{is_open_subsystem}
use Rattle.discovery_view.specs.Allowed.{is_named}
use Rattle.discovery_view.specs.Catalog.{catalog_of, is_referral}
use Rattle.discovery_view.proofs.Catalogs.{places_within}
use Rattle.discovery_view.proofs.ready.Ready.allowed_by.Goals as goal

pub count_from-count-requires : goal.count_from-count-requires
count_from-count-requires c =
    rw (c.deref.ensures.value, c.in_ok-places.ensures, c.entries.ensures.same)
    (places_within (λ p. is_referral p.subtype || (is_open_subsystem c.args.catalog.now.subsystems p.nqn || is_named c.args.names.now p.nqn)) (catalog_of c.args.catalog.now))

pub returns : goal.returns
returns c =
    rw (c.count_from-count.ensures, c.deref.ensures.value, c.in_ok-places.ensures, c.entries.ensures.same) refl
