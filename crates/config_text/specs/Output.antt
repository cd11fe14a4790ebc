-- What a writer leaves of the buffer that it appends to.
use Rattle.std.specs.Prelude.{◌≡◌, ℕ, ◌+◌, ◌<◌, ◌≤◌, List, ◌∷◌, ◌++◌, length, flat_map, Result, Ok, Err}
use Rattle.bytes.specs.Filled.{Filled}
use Rattle.config_text.specs.Command.{grammar_of}
use Rattle.config_text.specs.Operand.{Value, word_of}
use Rattle.config_text.specs.declared.command.EditCommand.{EditCommand}
use Rattle.config_text.specs.declared.write.Full.{Full}

-- the first two words, with the space between
abbrev pub head_of : EditCommand → List ℕ
head_of command = (grammar_of command).noun ++ 32 ∷ (grammar_of command).verb

-- the words of some values, each after a space
abbrev pub spaced : List Value → List ℕ
spaced values = flat_map (λ value. 32 ∷ word_of value) values

-- The bytes stand at the end, in what was spare room. Only where that is too small is the buffer full,
-- and as it was.
abbrev pub AppendsOrFull : Filled → Filled → List ℕ → Result (Unit {0}) Full → Type 0
AppendsOrFull old new bytes (Ok done) =
    (length bytes ≤ old.spare) × (new.items ≡ old.items ++ bytes) × (new.spare + length bytes ≡ old.spare)
AppendsOrFull old new bytes (Err full) = (old.spare < length bytes) × (new ≡ old)
