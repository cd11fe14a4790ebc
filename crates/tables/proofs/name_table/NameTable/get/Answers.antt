use Rattle.std.proofs.Common.{sym, ◌∙◌}
use Rattle.tables.proofs.NameTables.{found}
use Rattle.tables.proofs.name_table.NameTable.get.Goals as goal

pub returns : goal.returns
returns g c =
    rw (← c.self.view_is) (c.get.ensures.value ∙ sym (found c.self.inside.values.entries c.args.name.now))
