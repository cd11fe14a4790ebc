use Rattle.std.proofs.Common.{sym}
use Rattle.discovery_view.proofs.Strangers.{names_shown}
use Rattle.discovery_view.proofs.lists.Lists.table.Goals as goal

pub returns : goal.returns
returns c = rw (← c.self.view_is) (sym (names_shown c.self.inside.slots.items c.self.inside.table.hosts))
