use Rattle.tables.proofs.NameTables.{taken}
use Rattle.tables.proofs.name_table.NameTable.remove.Goals as goal

pub returns-clause-removed : goal.returns-clause-removed
returns-clause-removed g c =
    let updates = c.swap_remove.ensures.updates in
    rw (← c.self.view_is) (
    taken c.self.inside.values.entries c.swap_remove.new.self.entries c.args.name.now updates.1 updates.3)
