use Rattle.tables.proofs.Layouts.{has_room, table_of-filled, IsLaidOut-filled}
use Rattle.tables.proofs.number_table.NumberTable.put.Goals as goal

pub insert_reserved-key-requires : goal.insert_reserved-key-requires
insert_reserved-key-requires g c =
    let asked = rw (← c.self.view_is) at c.requires in
    has_room _ _ c.args.number c.self.invariant asked.within asked.empty

pub invariant_of-self : goal.invariant_of-self
invariant_of-self g c =
    let asked = rw (← c.self.view_is) at c.requires in
    let inserted = c.insert_reserved-key.ensures in
    IsLaidOut-filled _ _ _ c.args.number _ _ c.self.invariant asked.within asked.empty inserted.was_vacant inserted.updates inserted.len inserted.capacity

pub returns : goal.returns
returns g c =
    let asked = rw (← c.self.view_is) at c.requires in
    let inserted = c.insert_reserved-key.ensures in
    rw (← c.self.view_is) (table_of-filled _ _ _ c.args.number _ _ c.self.invariant asked.within inserted.was_vacant inserted.updates)
