use Rattle.std.proofs.Common.{rules, ◌∙◌, sym}
use Rattle.block_store.proofs.Blanks.{none_there, zeros_read}
use Rattle.block_store.proofs.pieces.Piece.read.Goals as goal

pub returns-then-is_empty : goal.returns-then-is_empty
returns-then-is_empty c =
    zeros_read 128 c.args.at _ c.args.self.now c.fill.new.self
    (sym c.self.view_is ∙ none_there c.self.inside.units.items (search rules))
    c.requires.whole c.requires.within (c.fill.ensures.after (λ y same. same))
