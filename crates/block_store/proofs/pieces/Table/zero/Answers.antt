use Rattle.std.proofs.Common.{rules, arith, ◌∙◌, sym, replicate, ◌%◌}
use Rattle.std.proofs.lemmas.List.{length-replicate}
use Rattle.block_store.specs.Unit.{zero_unit}
use Rattle.block_store.proofs.Blanks.{changed_are, changed_is, held_in, no_table_there, zeros_each, zeros_stay}
use Rattle.block_store.proofs.Parts.{units_after}
use Rattle.block_store.proofs.pieces.Table.zero.Goals as goal

pub invariant_of-self : goal.invariant_of-self
invariant_of-self c =
    let pieces = c.self.inside.pieces.items in
    let held = held_in pieces c.args.at c.index_mut.result.now c.self.invariant (search rules) c.requires.place c.index_mut.ensures.value in
    changed_are pieces c.args.at c.index_mut.result.now c.self.invariant (search rules) c.requires.place c.index_mut.ensures.value c.zero.new.self
    (rw c.zero.ensures (units_after 128 c.index_mut.result.now (replicate c.args.count zero_unit) (c.args.at % 128) held (zeros_each c.args.count)
    (omega (arith, length-replicate c.args.count zero_unit, c.requires))))

pub returns-then-not-is_empty : goal.returns-then-not-is_empty
returns-then-not-is_empty c =
    let pieces = c.self.inside.pieces.items in
    changed_is pieces c.args.at c.index_mut.result.now c.self.invariant (search rules) c.requires.place c.index_mut.ensures.value c.zero.new.self
    c.args.self.now (replicate c.args.count zero_unit) c.self.view_is
    (omega (arith, length-replicate c.args.count zero_unit, c.requires)) c.zero.ensures

pub returns-else-not-is_empty : goal.returns-else-not-is_empty
returns-else-not-is_empty c =
    zeros_stay 131072 c.args.at c.args.count c.args.self.now
    (sym c.self.view_is ∙ no_table_there c.self.inside.pieces.items (search rules)) (omega (arith, c.requires))
