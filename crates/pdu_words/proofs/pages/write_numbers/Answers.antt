use Rattle.std.proofs.Common.{◌++◌, ◌∷◌, flat_map, sym, ap, ◌∙◌, append_assoc, append-nil, rules}
use Rattle.std.proofs.Output.{has_written_append, has_written_of_eq}
use Rattle.nvt_fields.specs.Field.{field_at}
use Rattle.pdu_words.specs.Pages.{dwords, spaced_words}
use Rattle.pdu_words.proofs.Numbers.{dwords_more, dwords_none}
use Rattle.pdu_words.proofs.pages.write_numbers.Goals as goal

pub numbers-preserved : goal.numbers-preserved
numbers-preserved g c =
    λ plain.
    let now = c.numbers.invariant plain in
    let rest = c.numbers.rest.now in
    let n = field_at 4 0 rest in
    let more = dwords_more rest c.numbers-test.true ∙ ap (λ l. n ∷ dwords l) (sym c.split_at.ensures.back) in (
      now.0 ++ spaced_words n,
      has_written_append _ _ _ _ _ _ now.1 (search rules),
      append_assoc now.0 (spaced_words n) _ ∙ ap (λ l. now.0 ++ flat_map spaced_words l) (sym more) ∙ now.2,
    )

pub returns : goal.returns
returns g c =
    λ plain ok.
    let now = c.numbers.invariant plain in
    let none = dwords_none c.numbers.rest.now c.numbers-test.false in
    has_written_of_eq _ _ _ _ _ (sym (append-nil now.0) ∙ ap (λ l. now.0 ++ flat_map spaced_words l) (sym none) ∙ now.2) now.1
