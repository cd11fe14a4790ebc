-- What a line says: a command, and values of its forms.
use Rattle.std.specs.Prelude.{◌≡◌, ℕ, ◌≤◌, List, ◌∷◌, length, map}
use Rattle.std.specs.List.{AllByRecursion}
use Rattle.config_text.specs.Command.{grammar_of}
use Rattle.config_text.specs.Operand.{IsSaid, Value, form_of, word_of}
use Rattle.config_text.specs.Words.{words}
use Rattle.config_text.specs.declared.command.EditCommand.{EditCommand}

-- the words that say a command with these values
abbrev pub said_words : EditCommand → List Value → List (List ℕ)
said_words command values = (grammar_of command).noun ∷ (grammar_of command).verb ∷ map word_of values

-- a line without a fault says a command with values of its forms
pub record IsSaidBy (line : List ℕ) (command : EditCommand) (values : List Value) : Type 0 where
  pub short : length line ≤ 1024
  pub words_are : words line ≡ said_words command values
  pub forms_are : map form_of values ≡ (grammar_of command).forms
  pub said : AllByRecursion IsSaid values
