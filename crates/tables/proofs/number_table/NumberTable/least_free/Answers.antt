use Rattle.std.proofs.Common.{sym, ap, ◌∙◌, is_none}
use Rattle.std.specs.List.{position}
use Rattle.tables.proofs.Layouts.{position-table_of}
use Rattle.tables.proofs.number_table.NumberTable.least_free.Goals as goal

pub returns : goal.returns
returns g c =
    let keys = c.self.inside.keys.items in
    rw (← c.self.view_is) (c.first_empty.ensures ∙ ap (position is_none) c.deref.ensures.value ∙ sym (position-table_of keys c.self.inside.values c.self.invariant))
