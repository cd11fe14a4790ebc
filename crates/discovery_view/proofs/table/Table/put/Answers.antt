use Rattle.std.proofs.Common.{refl, sym, ◌∙◌}
use Rattle.std.proofs.lemmas.List.{map-append}
use Rattle.indexmap.proofs.CallerLemmas.{insert_entry-new}
use Rattle.discovery_view.proofs.Rows.{none_there, row_there}
use Rattle.discovery_view.proofs.table.Table.put.Goals as goal

pub returns : goal.returns
returns c =
    let hosts = c.self.inside.hosts in
    let name = c.args.name.items in
    let none = sym (row_there (λ k. k.items) hosts.entries name) ∙ rw (← c.self.view_is) at c.requires in
    let entries = c.in_ok-insert.ensures.entries ∙ insert_entry-new _ hosts c.args.name c.args.ready (none_there _ none) in
    rw (← c.self.view_is, entries, map-append) refl
