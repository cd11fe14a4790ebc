use Rattle.std.proofs.Common.{rules, []}
use Rattle.std.proofs.lemmas.List.Elements.{All-from_get_or}
use Rattle.block_store.specs.Unit.{IsUnit}
use Rattle.block_store.proofs.Blanks.{filled_view, put_are}
use Rattle.block_store.proofs.pieces.Piece.write.Goals as goal

pub invariant_of-self-2 : goal.invariant_of-self-2
invariant_of-self-2 c =
    let items = c.fill_piece.new.units.items in
    let filled = filled_view items c.self.inside.units.items c.args.self.now c.in_ok-fill_piece.ensures.there c.self.view_is c.self.invariant in
    put_are items c.put.new.held c.args.self.now c.args.units.now c.fill_piece.new.units.len c.args.at
    filled.0 filled.1 filled.2 (search rules) c.requires
    (rw c.deref_mut.ensures.value at c.put.ensures) (All-from_get_or IsUnit c.args.units.now [] c.told-units)
