use Rattle.std.proofs.Common.{◌≡◌}
use Rattle.nvt_config.specs.Configuration.{Configuration}
use Rattle.discovery_view.specs.Allowed.{allows_after, host_of}
use Rattle.discovery_view.specs.Catalog.{places_by, places_of}
use Rattle.discovery_view.proofs.Allowances.{places_named}
use Rattle.discovery_view.proofs.Catalogs.{shown_records}
use Rattle.discovery_view.proofs.lists.Lists.next_row.Goals as goal

pub returns : goal.returns
returns c =
    let config = c.args.config.now in
    let host = host_of c.args.allowance in
    let allows = allows_after config.allows c.args.allowance in
    let next : Configuration = record config { allows = allows } in
    let names = c.in_ok-names.names.items in
    let same : places_by config names ≡ places_of next host = places_named config names allows host c.in_ok-names.ensures in
    rw (c.in_ok-catalog.ensures, c.deref-2.ensures.value, same, c.shown-before.ensures, c.host.ensures, shown_records next host) at c.allowed_by.ensures
