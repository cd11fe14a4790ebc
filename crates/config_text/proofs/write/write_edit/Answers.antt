use Rattle.std.proofs.Common.{◌≡◌, ◌++◌, List, ℕ, sym, subst, ap, ◌∙◌}
use Rattle.config_text.specs.EditLine.{command_of, line_of, values_of}
use Rattle.config_text.specs.Operand.{values}
use Rattle.config_text.specs.Output.{AppendsOrFull, head_of, spaced}
use Rattle.config_text.proofs.WriteLemmas.{line_is}
use Rattle.config_text.proofs.write.write_edit.Goals as goal

pub returns : goal.returns
returns c =
    let edit = c.args.edit.now in
    let said : values c.deref.result.now ≡ values_of edit = ap values c.deref.ensures.0 ∙ c.operands_of.ensures in
    let written : head_of c.command_of.result ++ spaced (values c.deref.result.now) ≡ line_of edit =
    ap (λ k. head_of k ++ spaced (values c.deref.result.now)) c.command_of.ensures ∙ ap (λ vs. head_of (command_of edit) ++ spaced vs) said ∙ sym (line_is edit) in
    subst (λ (line : List ℕ). AppendsOrFull c.args.out.now c.write_words.new.out line c.write_words.result) written c.write_words.ensures
