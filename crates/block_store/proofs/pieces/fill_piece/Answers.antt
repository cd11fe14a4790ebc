use Rattle.std.proofs.Common.{rules}
use Rattle.std.proofs.lemmas.List.Elements.{same_from_all_zip}
use Rattle.block_store.proofs.Blanks.{taken_piece}
use Rattle.block_store.proofs.pieces.fill_piece.Goals as goal

pub returns-in_ok-units-clause-there : goal.returns-in_ok-units-clause-there
returns-in_ok-units-clause-there c =
    taken_piece c.args.units.now.items c.in_ok-units.field-0.items (search rules)
    (c.in_ok-units.ensures.items_if_clones_equal (λ y clones. same_from_all_zip _ _ _ clones.whole (λ a b same. same)))
