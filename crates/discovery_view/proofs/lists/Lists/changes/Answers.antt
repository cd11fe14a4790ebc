use Rattle.std.proofs.Common.{◌<◌, ◌^◌}
use Rattle.discovery_view.specs.View.{row_in}
use Rattle.discovery_view.proofs.Counting.{told}
use Rattle.discovery_view.proofs.lists.Lists.changes.Goals as goal

pub returns : goal.returns
returns c = λ before next of leads.
    let slots = c.self.inside.slots.items in
    let rows = c.self.inside.table in
    let below : (row_in rows c.args.host.now).count < 2 ^ 64 = rw (c.count-2.ensures, c.row.ensures) at c.count-2.type_inv in
    rw (c.count.ensures, c.count-2.ensures, c.row_after-after.ensures, c.row.ensures)
    (rw (← c.plan.view_is) at (told before next slots rows c.args.plan.now c.args.host.now below (rw (← c.self.view_is) at of) (rw (← c.self.view_is) at leads)))
