use Rattle.tables.proofs.NameTables.{put}
use Rattle.tables.proofs.name_table.NameTable.put.Goals as goal

pub returns-clause-put : goal.returns-clause-put
returns-clause-put g c =
    let before = c.self.inside.values.entries in
    let same = c.in_ok-name.ensures.items in
    let entries = c.in_ok-insert.ensures.entries in
    rw (← c.self.view_is, entries, ← same) (put before c.in_ok-name.name c.args.value)
