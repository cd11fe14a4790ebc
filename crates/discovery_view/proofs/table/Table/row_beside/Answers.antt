use Rattle.std.proofs.Common.{sym, refl, ◌∙◌}
use Rattle.discovery_view.proofs.Counting.{row_elsewhere, row_nowhere}
use Rattle.discovery_view.proofs.Plans.{place_found}
use Rattle.discovery_view.proofs.table.Table.row_beside.Goals as goal

pub returns-then-there-place : goal.returns-then-there-place
returns-then-there-place c =
    let rows = c.args.self.now in
    sym (place_found rows.hosts rows.strangers c.args.host.now c.args.host.now c.args.place c.args.ready.now (rw c.if-there-place.true at c.in-Some.ensures) refl)

pub returns-else-there-place : goal.returns-else-there-place
returns-else-there-place c =
    let rows = c.args.self.now in
    c.row.ensures ∙ sym (row_elsewhere rows.hosts rows.strangers c.args.host.now c.in-Some.there c.args.place c.args.ready.now c.in-Some.ensures c.if-there-place.false)

pub returns-in-None : goal.returns-in-None
returns-in-None c =
    let rows = c.args.self.now in
    c.row-in-None.ensures ∙ sym (row_nowhere rows.hosts rows.strangers c.args.host.now c.args.place c.args.ready.now c.in-None.ensures)
