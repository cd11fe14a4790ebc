use Rattle.std.proofs.Common.{arith, ◌∙◌, ap, sym, subst, ◌/◌, length}
use Rattle.block_store.specs.Pieces.{AreParts}
use Rattle.block_store.specs.Range.{bytes_of, units_at}
use Rattle.block_store.proofs.Blanks.{joined_read, no_pieces, no_table_there, some_pieces, table_there, zeros_read}
use Rattle.block_store.proofs.pieces.Table.read.Goals as goal

pub returns-in-None : goal.returns-in-None
returns-in-None c =
    let pieces = c.self.inside.pieces.items in
    let past = rw c.deref.ensures.value at c.in-None.ensures.lookup.0 in
    zeros_read 131072 c.args.at _ c.args.self.now c.fill.new.self
    (sym c.self.view_is ∙ no_table_there pieces (no_pieces pieces (c.args.at / 128) c.self.invariant (omega (arith, c.requires)) past))
    c.requires.whole (omega (arith, c.requires)) (c.fill.ensures.after (λ y same. same))

pub returns-in-Some : goal.returns-in-Some
returns-in-Some c =
    let pieces = c.self.inside.pieces.items in
    let count = length c.args.out.now / 512 in
    let lookup = rw c.deref.ensures.value at c.in-Some.ensures.lookup in
    let there = table_there pieces (some_pieces pieces (c.args.at / 128) lookup.0) in
    c.read.ensures
    ∙ ap bytes_of (joined_read 1024 128 pieces c.args.at c.in-Some.piece.now c.in-Some.piece.now (subst (AreParts 1024 128) there c.self.invariant) (omega (arith, c.requires)) lookup.1 count c.requires.within)
    ∙ ap (λ units. bytes_of (units_at units c.args.at count)) (rw there at c.self.view_is)
