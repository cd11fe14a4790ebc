use Rattle.std.proofs.Common.{◌≡◌}
use Rattle.discovery_view.specs.Catalog.{places_by, places_of}
use Rattle.discovery_view.proofs.Allowances.{places_named}
use Rattle.discovery_view.proofs.Catalogs.{shown_records}
use Rattle.discovery_view.proofs.ready.Ready.following.Goals as goal

pub returns : goal.returns
returns c =
    let config = c.args.catalog.now in
    let names = c.in_ok-names.names.items in
    let same : places_by config names ≡ places_of config c.args.host.now = places_named config names config.allows c.args.host.now (rw c.config.ensures at c.in_ok-names.ensures) in
    rw (c.deref.ensures.value, same, shown_records config c.args.host.now) at c.allowed_by.ensures
