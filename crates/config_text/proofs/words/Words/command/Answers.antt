use Rattle.std.proofs.Common.{◌≡◌, ℕ, ◌+◌, length, Some, sym, ◌∙◌, ap, List, ◌∷◌, arith}
use Rattle.std.proofs.lemmas.Result.{err_from_is_err_and}
use Rattle.config_text.specs.Command.{grammar_of}
use Rattle.config_text.specs.Words.{absence}
use Rattle.config_text.specs.WordsLeft.{words_left}
use Rattle.config_text.proofs.WordLemmas.{check_passed, command_words, verb_absent}
use Rattle.config_text.proofs.words.Words.command.Goals as goal

pub returns-in_err-verb-clause-fault : goal.returns-in_err-verb-clause-fault
returns-in_err-verb-clause-fault c =
    let p = err_from_is_err_and c.from_residual-in_err-verb.result c.from_residual-in_err-verb.ensures.1 in
    let noun = c.in_ok-noun.ensures.takes in
    let place : c.next_word.new.self.column ≡ length c.in_ok-noun.noun.now + 1 = omega (arith, noun.column) in
    let mid = c.next_word.new.self in
    let absent : absence c.args.self.now.end mid.column (words_left mid) ≡ Some c.in_err-verb.field-0.0 =
    ap (λ (e : ℕ). absence e mid.column (words_left mid)) (sym noun.end) ∙ sym c.in_err-verb.ensures.fault in
    rw (p.1, p.2) (verb_absent _ _ _ _ _ _ noun.words noun.nonempty (sym c.is_noun.ensures ∙ check_passed _ _ c.in_ok-check.ensures) place absent)

pub returns-in-Some-clause-words : goal.returns-in-Some-clause-words
returns-in-Some-clause-words c =
    let both = command_words c.in_ok-noun.noun.now c.in_ok-verb.verb.now c.in-Some.command (sym c.from_words.ensures ∙ c.in-Some.is) in
    c.in_ok-noun.ensures.takes.words ∙ ap (λ (ws : List (List ℕ)). c.in_ok-noun.noun.now ∷ ws) c.in_ok-verb.ensures.takes.words
    ∙ ap (λ (w : List ℕ). w ∷ c.in_ok-verb.verb.now ∷ words_left c.next_word-2.new.self) (sym both.0)
    ∙ ap (λ (w : List ℕ). (grammar_of c.in-Some.command).noun ∷ w ∷ words_left c.next_word-2.new.self) (sym both.1)
