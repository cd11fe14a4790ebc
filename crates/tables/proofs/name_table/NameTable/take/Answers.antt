use Rattle.std.proofs.Common.{sym, ◌∙◌}
use Rattle.tables.proofs.NameTables.{found, taken}
use Rattle.tables.proofs.name_table.NameTable.take.Goals as goal

pub returns-clause-value : goal.returns-clause-value
returns-clause-value g c =
    rw (← c.self.view_is) (c.swap_remove.ensures.value ∙ sym (found c.self.inside.values.entries c.args.name.now))

pub returns-clause-removed : goal.returns-clause-removed
returns-clause-removed g c =
    let updates = c.swap_remove.ensures.updates in
    rw (← c.self.view_is) (
    taken c.self.inside.values.entries c.swap_remove.new.self.entries c.args.name.now updates.1 updates.3)
