-- Numbers among the words of a command.
use Rattle.std.specs.Prelude.{ℕ, List, Option, MatchOption}
use Rattle.config_text.specs.Number.{IsNumber}

abbrev pub IsNone : List ℕ → Type 0
IsNone word = (n : ℕ) → IsNumber word n → ⊥

-- a word is read as the number that it spells, or spells none
abbrev pub IsRead : Option ℕ → List ℕ → Type 0
IsRead result word = MatchOption result (IsNone word) (IsNumber word)
