use Rattle.std.proofs.Common.{rules, arith, ◌≡◌, ◌∷◌, List, ℕ, ◌≤◌, length, ap, sym, ◌∙◌}
use Rattle.config_text.specs.Command.{grammar_of}
use Rattle.config_text.specs.Words.{forms_fault, line_fault, words, words_fault}
use Rattle.config_text.specs.WordsLeft.{words_left}
use Rattle.config_text.proofs.read.read_words.Goals as goal

short_fault : (line : List ℕ) → length line ≤ 1024 → line_fault line ≡ words_fault (length line) (words line)
short_fault line short = search rules

pub returns : goal.returns
returns c =
    let short : length c.args.line.now ≤ 1024 = omega arith in
    let start = c.of-words.result in
    let rest = c.command.new.self in
    let grammar = grammar_of c.in_ok-command.command in record {
      fault =
          c.in_ok-operands.ensures.fault ∙
          ap (λ forms. forms_fault rest.end rest.column forms (words_left rest)) c.forms.ensures.forms ∙
          sym c.in_ok-command.ensures.rest ∙
          ap (λ end. words_fault end (words_left start)) c.of-words.ensures.end ∙
          ap (words_fault (length c.args.line.now)) c.of-words.ensures.words ∙
          sym (short_fault c.args.line.now short);
      said = record {
        short = short;
        words_are = sym c.of-words.ensures.words ∙ c.in_ok-command.ensures.words ∙ ap (λ ws. grammar.noun ∷ grammar.verb ∷ ws) (sym (rw c.new-operands.ensures at c.in_ok-operands.ensures.words));
        forms_are = rw c.new-operands.ensures at c.in_ok-operands.ensures.forms ∙ c.forms.ensures.forms;
        said = c.in_ok-operands.ensures.said (rw c.new-operands.ensures tt);
      };
    }
