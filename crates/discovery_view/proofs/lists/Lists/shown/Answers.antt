use Rattle.std.proofs.Common.{sym}
use Rattle.discovery_view.proofs.Strangers.{row_shown}
use Rattle.discovery_view.proofs.lists.Lists.shown.Goals as goal

pub returns : goal.returns
returns c =
    let slots = c.self.inside.slots.items in
    let rows = c.self.inside.table in
    rw (← c.self.view_is, c.new.ensures, c.as_slice.ensures.value, c.row.ensures) (sym (row_shown slots rows c.args.host.now))
