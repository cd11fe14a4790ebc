-- The words of a command and of values, each after a space, are a line.
use Rattle.std.proofs.Common.{◌≡◌, ℕ, List, [], ◌∷◌, ◌++◌, map, sym, ap, ◌∙◌, append_assoc, append-nil}
use Rattle.std.specs.List.{join_with_byte}
use Rattle.config_lists.specs.declared.edit.Edit.{Edit}
use Rattle.config_text.specs.Command.{grammar_of}
use Rattle.config_text.specs.EditLine.{command_of, line_of, values_of}
use Rattle.config_text.specs.Operand.{Value, word_of}
use Rattle.config_text.specs.Output.{head_of, spaced}

join-spaced : (word : List ℕ) (vs : List Value) → join_with_byte 32 (word ∷ map word_of vs) ≡ word ++ spaced vs
join-spaced word [] = sym (append-nil word)
join-spaced word (v ∷ vs) = ap (λ l. word ++ 32 ∷ l) (join-spaced (word_of v) vs)

-- the line of an edit: its first two words, and the others, each after a space
pub line_is : (e : Edit) → line_of e ≡ head_of (command_of e) ++ spaced (values_of e)
line_is e =
    let grammar = grammar_of (command_of e) in
    ap (λ l. grammar.noun ++ 32 ∷ l) (join-spaced grammar.verb (values_of e)) ∙ sym (append_assoc grammar.noun (32 ∷ grammar.verb) (spaced (values_of e)))
