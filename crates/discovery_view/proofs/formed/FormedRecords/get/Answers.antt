use Rattle.std.proofs.Common.{◌<◌, length, get_or, arith}
use Rattle.std.proofs.lemmas.List.{length-map}
use Rattle.discovery_view.proofs.Catalogs.{at_row, formed_at}
use Rattle.discovery_view.proofs.formed.FormedRecords.get.Goals as goal

pub returns : goal.returns
returns g c =
    let slots = c.self.inside.slots.now in
    let places = c.self.inside.ready.now.places in
    let index = c.args.index in
    let below : index < length places = omega (arith, rw (← c.self.view_is, length-map) at c.requires) in
    let place = get_or places index 0 in
    let within : place < length slots = c.self.invariant.0.places index 0 below in
    rw (← c.self.view_is, at_row slots places index 0 below)
    (formed_at g.F.Former.bytes_of c.self.inside.formed.now slots place c.index-formed-places.result c.self.invariant.1 within (rw c.places-places.ensures at c.index-formed-places.is))
