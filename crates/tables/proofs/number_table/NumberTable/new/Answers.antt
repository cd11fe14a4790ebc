use Rattle.std.proofs.Common.{rules}
use Rattle.tables.proofs.Layouts.{table_of-replicate, IsLaidOut-replicate}
use Rattle.tables.proofs.number_table.NumberTable.new.Goals as goal

pub invariant_of-result : goal.invariant_of-result
invariant_of-result g c =
    let made = c.in_ok-with_capacity.ensures in
    rw (c.in_ok-vec.ensures.items_if_clones_equal (λ y copied. search rules))
    (IsLaidOut-replicate c.args.places c.in_ok-with_capacity.field-0 made.empty made.capacity)

pub returns : goal.returns
returns g c =
    rw (c.in_ok-vec.ensures.items_if_clones_equal (λ y copied. search rules))
    (table_of-replicate c.args.places c.in_ok-with_capacity.field-0)
