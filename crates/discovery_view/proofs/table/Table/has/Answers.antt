use Rattle.std.proofs.Common.{sym, ◌∙◌}
use Rattle.discovery_view.proofs.Rows.{row_there}
use Rattle.discovery_view.proofs.table.Table.has.Goals as goal

pub returns : goal.returns
returns c =
    rw (← c.self.view_is) (c.contains_key.ensures ∙ sym (row_there (λ k. k.items) c.self.inside.hosts.entries c.args.host.now))
