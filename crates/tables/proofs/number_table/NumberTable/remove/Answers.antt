use Rattle.std.proofs.Common.{◌≡◌, Some, None, sym, ap, ◌∙◌}
use Rattle.tables.specs.NumberTable.{place}
use Rattle.tables.specs.Layout.{value_under}
use Rattle.tables.proofs.NumberTables.{without_None}
use Rattle.tables.proofs.Layouts.{place-table_of, table_of-emptied, IsLaidOut-emptied}
use Rattle.tables.proofs.number_table.NumberTable.remove.Goals as goal

pub returns-in_err-key-clause-emptied : goal.returns-in_err-key-clause-emptied
returns-in_err-key-clause-emptied g c =
    let keys = c.self.inside.keys.items in
    let values = c.self.inside.values in
    let number = c.args.number in
    let none : place keys number ≡ None = rw c.deref.ensures.value at (sym c.key_at.ensures ∙ c.in_err-key.was) in
    rw (← c.self.view_is) (sym (without_None _ number (place-table_of keys values number ∙ ap (value_under values) none)))

pub invariant_of-self : goal.invariant_of-self
invariant_of-self g c =
    let keys = c.self.inside.keys.items in
    let number = c.args.number in
    let found : place keys number ≡ Some c.in_ok-key.key = rw c.deref.ensures.value at (sym c.key_at.ensures ∙ c.in_ok-key.was) in
    let removed = c.remove.ensures in
    IsLaidOut-emptied keys _ _ number _ c.self.invariant found removed.updates removed.len removed.capacity

pub returns-clause-emptied : goal.returns-clause-emptied
returns-clause-emptied g c =
    let keys = c.self.inside.keys.items in
    let number = c.args.number in
    let found : place keys number ≡ Some c.in_ok-key.key = rw c.deref.ensures.value at (sym c.key_at.ensures ∙ c.in_ok-key.was) in
    rw (← c.self.view_is) (table_of-emptied keys _ _ number _ c.self.invariant found c.remove.ensures.updates)
