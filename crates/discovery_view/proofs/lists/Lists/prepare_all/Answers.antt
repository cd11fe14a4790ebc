use Rattle.std.proofs.Common.{◌≡◌, Some, ap, ◌∙◌, arith}
use Rattle.std.proofs.lemmas.List.{length-drop}
use Rattle.discovery_view.specs.Catalog.{catalog_of}
use Rattle.discovery_view.specs.Plan.{spliced}
use Rattle.discovery_view.specs.Ready.{Places}
use Rattle.discovery_view.proofs.Catalogs.{spliced_is}
use Rattle.discovery_view.proofs.Strangers.{rows_within, shows_next}
use Rattle.discovery_view.proofs.Slots.{rest_of}
use Rattle.discovery_view.proofs.lists.Lists.prepare_all.Goals as goal

pub returns-clause-planned : goal.returns-clause-planned
returns-clause-planned c =
    let slots = c.self.inside.slots.items in
    let catalog = c.entries-entries.result.now in
    let first = c.same_at_first-first in
    let last = c.same_at_last-last in
    let one = rw c.deref.ensures.value at first.ensures.within in
    let front = rw c.deref.ensures.value at first.ensures.same in
    let two = rw (c.deref-2.ensures.value, rest_of first.result slots, rest_of first.result catalog) at last.ensures.within in
    let back = rw (c.deref-2.ensures.value, rest_of first.result slots, rest_of first.result catalog) at last.ensures.same in
    let fresh = c.in_ok-fresh.ensures in
    let whole : spliced slots first.result c.in_ok-fresh.fresh.items last.result ≡ catalog = spliced_is slots catalog c.in_ok-fresh.fresh.items first.result last.result one.0 one.1 front two.0 two.1 back fresh in
    let same : catalog ≡ catalog_of c.args.next.now = rw c.in_ok-catalog.ensures at c.entries-entries.ensures.same in
    let follows = rw c.in_ok-catalog.ensures at c.in_ok-table.ensures.rows in
    let kept = c.in_ok-reserve.ensures.items in
    let ready = rw c.in_ok-catalog.ensures at c.entries-entries.ensures.ready in
    let strangers = rw c.in_ok-catalog.ensures at c.in_ok-table.ensures.strangers in
    record {
      fits = rw kept (omega (arith, one.0, two.0, length-drop first.result slots));
      room = omega (arith, c.in_ok-reserve.ensures.ok);
      within = rw (kept, whole, same) (rows_within (Some c.args.self.now.shown) c.args.next.now c.in_ok-table.table ready follows strangers);
    }

pub returns-clause-next : goal.returns-clause-next
returns-clause-next c =
    let slots = c.self.inside.slots.items in
    let catalog = c.entries-entries.result.now in
    let first = c.same_at_first-first in
    let last = c.same_at_last-last in
    let one = rw c.deref.ensures.value at first.ensures.within in
    let front = rw c.deref.ensures.value at first.ensures.same in
    let two = rw (c.deref-2.ensures.value, rest_of first.result slots, rest_of first.result catalog) at last.ensures.within in
    let back = rw (c.deref-2.ensures.value, rest_of first.result slots, rest_of first.result catalog) at last.ensures.same in
    let fresh = c.in_ok-fresh.ensures in
    let whole : spliced slots first.result c.in_ok-fresh.fresh.items last.result ≡ catalog = spliced_is slots catalog c.in_ok-fresh.fresh.items first.result last.result one.0 one.1 front two.0 two.1 back fresh in
    let same : catalog ≡ catalog_of c.args.next.now = rw c.in_ok-catalog.ensures at c.entries-entries.ensures.same in
    let follows = rw c.in_ok-catalog.ensures at c.in_ok-table.ensures.rows in
    let all = whole ∙ same in
    let shows = shows_next c.args.next.now c.args.self.now.shown c.in_ok-table.table follows in
    let each = rw c.deref.ensures.value at first.ensures.all in
    let most = rw (c.deref-2.ensures.value, rest_of first.result slots, rest_of first.result catalog) at last.ensures.all in
    rw (← c.self.view_is) (record {
      shows = rw all (rw (← c.self.view_is) at shows);
      of = record { table = all; places = λ host. ap (λ (r : Places). r.places) (follows host) };
      least = rw (← same) (record { first = each; last = most; fresh = fresh });
    })
