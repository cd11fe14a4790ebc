use Rattle.std.proofs.Common.{◌≡◌, ap, ◌∙◌}
use Rattle.discovery_view.specs.Catalog.{catalog_of, is_shown, places_of}
use Rattle.discovery_view.specs.Ready.{Places}
use Rattle.discovery_view.proofs.Catalogs.{places_within, shown_records}
use Rattle.discovery_view.proofs.table.next_ready.Goals as goal

pub staying-requires : goal.staying-requires
staying-requires c =
    let found = rw (c.in-Some-Kept.is-0, c.in-Some-Kept.is-1) at c.requires in
    let same : c.places-places.result.now ≡ places_of c.args.catalog.now c.args.name.now =
    c.places-places.ensures ∙ ap (λ (r : Places). r.places) c.row.ensures.ready ∙ found c.args.name.now in
    rw same (places_within (is_shown c.args.catalog.now c.args.name.now) (catalog_of c.args.catalog.now))

pub returns-in-Some-Kept : goal.returns-in-Some-Kept
returns-in-Some-Kept c =
    let found = rw (c.in-Some-Kept.is-0, c.in-Some-Kept.is-1) at c.requires in
    let same : c.places-places.result.now ≡ places_of c.args.catalog.now c.args.name.now =
    c.places-places.ensures ∙ ap (λ (r : Places). r.places) c.row.ensures.ready ∙ found c.args.name.now in
    rw c.in-Some-Kept.is-0 (rw (same, c.shown.ensures, shown_records c.args.catalog.now c.args.name.now) at c.staying.ensures)
