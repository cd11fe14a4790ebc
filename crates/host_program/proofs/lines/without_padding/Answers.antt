use Rattle.std.proofs.Common.{take, slice_index, ap, sym, ◌∙◌, arith}
use Rattle.std.proofs.lemmas.List.{take_more}
use Rattle.host_program.specs.Lines.{without_padding}
use Rattle.host_program.proofs.Padding.{without_padding-pad, without_padding-text}
use Rattle.host_program.proofs.lines.without_padding.Goals as goal
use Rattle.host_program.proofs.lines.without_padding.Goals.{then-not-is_padding, else-not-is_padding}

pub loop-at-preserved : goal.loop-at-preserved
loop-at-preserved c =
    let field = c.args.field.now in
    let at = c.loop-at.at in
    let inv = c.loop-at.invariant in
    let byte = slice_index field at in
    let more = take_more field at 0 c.loop-at-test.true in
    elim c.if-not-is_padding.branch [
      | then-not-is_padding w ↦ record {
        within = omega (arith, w.end-is);
        text = ap (λ n. take n field) w.end-is ∙ more ∙ sym (without_padding-text (take at field) byte (sym w.if-not-is_padding.ensures)) ∙ ap without_padding (sym more);
      }
      | else-not-is_padding w ↦ record {
        within = omega (arith, w.end-is, inv.within);
        text = ap (λ n. take n field) w.end-is ∙ inv.text ∙ sym (without_padding-pad (take at field) byte (sym w.if-not-is_padding.ensures)) ∙ ap without_padding (sym more);
      }
    ]
