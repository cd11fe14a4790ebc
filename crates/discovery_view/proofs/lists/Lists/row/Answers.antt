use Rattle.std.proofs.Common.{sym}
use Rattle.discovery_view.proofs.Strangers.{row_shown}
use Rattle.discovery_view.proofs.lists.Lists.row.Goals as goal

pub returns-clause-row : goal.returns-clause-row
returns-clause-row c =
    rw (← c.self.view_is, c.row.ensures) (sym (row_shown c.self.inside.slots.items c.self.inside.table c.args.host.now))
