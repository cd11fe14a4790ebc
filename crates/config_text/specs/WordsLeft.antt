-- What is left to read of a line.
use Rattle.std.specs.Prelude.{◌≡◌, ℕ, ◌+◌, ◌<◌, List, ◌∷◌, length}
use Rattle.config_text.specs.Words.{words_in}
use Rattle.config_text.specs.declared.words.Words.{Words}

abbrev pub words_left : Words → List (List ℕ)
words_left w = words_in w.rest

-- a word of a byte at least was read
pub record Takes (old : Words) (word : List ℕ) (new : Words) : Type 0 where
  pub words : words_left old ≡ word ∷ words_left new
  pub column : new.column ≡ old.column + length word + 1
  pub end : new.end ≡ old.end
  pub nonempty : 0 < length word
