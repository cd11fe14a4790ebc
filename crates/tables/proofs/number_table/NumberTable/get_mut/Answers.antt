use borrow.Follows.Closed.{read_of}
use Rattle.std.proofs.Common.{◌≡◌, Some, sym, ap, ◌∙◌}
use Rattle.std.specs.Option.{ghost_name_of}
use Rattle.tables.specs.NumberTable.{place}
use Rattle.tables.specs.Layout.{value_under, table_of}
use Rattle.tables.proofs.Layouts.{place-table_of, table_of-with_value}
use Rattle.tables.proofs.number_table.NumberTable.get_mut.Goals as goal

pub returns : goal.returns
returns g c =
    let keys = c.self.inside.keys.items in
    let values = c.self.inside.values in
    let number = c.args.number in
    let read : c.key_at.result ≡ place keys number = rw c.deref.ensures.value at c.key_at.ensures in
    let found : place keys number ≡ Some c.in_ok-key.key = cc (read, c.in_ok-key.was) in
    rw (← c.self.view_is) (
      λ t. read_of (ghost_name_of c.get_mut.result)
          (λ (w : g.row.T.Denot). table_of-with_value keys values number c.in_ok-key.key w c.self.invariant found t)
          (table_of keys values),
      record {
        writes_back = tt;
        value = c.get_mut.ensures.value ∙ sym (place-table_of keys values number ∙ ap (value_under values) found);
      },
    )
