use Rattle.std.proofs.Common.{rules, arith, subst, ◌∙◌, sym, replicate}
use Rattle.std.proofs.lemmas.List.{length-replicate}
use Rattle.block_store.specs.Pieces.{AreUnits}
use Rattle.block_store.specs.Unit.{zero_unit}
use Rattle.block_store.proofs.Blanks.{all_zeroed, none_there, put_are, zeros_each, zeros_stay}
use Rattle.block_store.proofs.Parts.{blank_piece_are}
use Rattle.block_store.proofs.pieces.Piece.zero.Goals as goal

pub returns-then-is_empty : goal.returns-then-is_empty
returns-then-is_empty c =
    zeros_stay 128 c.args.at c.args.count c.args.self.now
    (sym c.self.view_is ∙ none_there c.self.inside.units.items (search rules)) c.requires

pub invariant_of-self : goal.invariant_of-self
invariant_of-self c = rw c.new.ensures.items blank_piece_are

pub returns-then-is_covered : goal.returns-then-is_covered
returns-then-is_covered c =
    all_zeroed c.new.result.items c.args.self.now c.args.at c.args.count c.new.ensures.items
    (subst (AreUnits 128) c.self.view_is c.self.invariant) c.requires (search rules)

pub invariant_of-self-else-is_covered : goal.invariant_of-self-else-is_covered
invariant_of-self-else-is_covered c =
    put_are c.self.inside.units.items c.put_zeros.new.held c.args.self.now (replicate c.args.count zero_unit)
    c.self.inside.units.len c.args.at c.self.view_is c.self.invariant (search rules) (search rules)
    (omega (arith, length-replicate c.args.count zero_unit, c.requires))
    (rw c.deref_mut.ensures.value at c.put_zeros.ensures) (zeros_each c.args.count)
