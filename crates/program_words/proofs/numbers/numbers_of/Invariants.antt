use Rattle.std.proofs.Common.{◌≡◌, map, take, drop}
use Rattle.std.specs.Fmt.{decimal}
use Rattle.std.specs.List.{list_all}
use Rattle.config_text.specs.Number.{is_number}
use Rattle.program_words.proofs.numbers.numbers_of.Given as goal

abbrev pub invariant-loop-word : goal.invariant-loop-word
invariant-loop-word l =
    (map decimal l.numbers.items ≡ map (λ word. word.now) (take l.word-index l.words))
    × (list_all (λ word. is_number word.now) (drop l.word-index l.words) ≡ list_all (λ word. is_number word.now) l.words)
