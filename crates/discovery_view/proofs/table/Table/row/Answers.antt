use Rattle.std.proofs.Common.{unwrap_or, ap, sym, ◌∙◌}
use Rattle.discovery_view.proofs.Rows.{row_found}
use Rattle.discovery_view.proofs.table.Table.row.Goals as goal

pub returns-in-Some : goal.returns-in-Some
returns-in-Some c =
    let strangers = c.self.inside.strangers in
    rw (← c.self.view_is) (ap (λ o. unwrap_or o strangers) c.in-Some.ensures.value ∙ sym (row_found (λ k. k.items) c.self.inside.hosts.entries strangers c.args.host.now))

pub returns-in-None : goal.returns-in-None
returns-in-None c =
    let strangers = c.self.inside.strangers in
    rw (← c.self.view_is) (ap (λ o. unwrap_or o strangers) c.in-None.ensures.value ∙ sym (row_found (λ k. k.items) c.self.inside.hosts.entries strangers c.args.host.now))
