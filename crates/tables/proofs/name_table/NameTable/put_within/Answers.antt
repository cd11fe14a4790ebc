use Rattle.tables.proofs.NameTables.{put}
use Rattle.tables.proofs.name_table.NameTable.put_within.Goals as goal

pub returns : goal.returns
returns g c =
    let before = c.self.inside.values.entries in
    let entries = rw c.unwrap.ensures at c.insert.ensures.entries in
    rw (← c.self.view_is, entries) (put before c.args.name c.args.value)
