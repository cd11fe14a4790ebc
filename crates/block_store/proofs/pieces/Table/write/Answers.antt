use Rattle.std.proofs.Common.{[], ◌%◌}
use Rattle.std.proofs.lemmas.List.Elements.{All-from_get_or}
use Rattle.block_store.specs.Unit.{IsUnit}
use Rattle.block_store.proofs.Blanks.{answered_are, changed_are, changed_is, held_in, on_ok, table_view}
use Rattle.block_store.proofs.pieces.Table.write.Goals as goal

pub invariant_of-self-2 : goal.invariant_of-self-2
invariant_of-self-2 c =
    let pieces = c.fill_table.new.pieces.items in
    let held = c.index_mut.result.now in
    let seen = table_view pieces c.self.inside.pieces.items c.args.self.now c.in_ok-fill_table.ensures.there c.self.view_is c.self.invariant in
    let held_are = held_in pieces c.args.at held seen.1 seen.2 c.requires.place c.index_mut.ensures.value in
    changed_are pieces c.args.at held seen.1 seen.2 c.requires.place c.index_mut.ensures.value c.write.new.self
    (answered_are c.write.result 128 (c.args.at % 128) held c.write.new.self c.args.units.now held_are (All-from_get_or IsUnit c.args.units.now [] c.told-units)
    c.requires.within c.write.ensures.written c.write.ensures.refused)

pub returns-clause-written : goal.returns-clause-written
returns-clause-written c =
    let pieces = c.fill_table.new.pieces.items in
    let seen = table_view pieces c.self.inside.pieces.items c.args.self.now c.in_ok-fill_table.ensures.there c.self.view_is c.self.invariant in
    on_ok c.write.result
    (λ written.
    changed_is pieces c.args.at c.index_mut.result.now seen.1 seen.2 c.requires.place c.index_mut.ensures.value c.write.new.self
    c.args.self.now c.args.units.now seen.0 c.requires.within written)
    c.write.ensures.written
