-- A line as words, and the first word of one that is faulty.
use Rattle.std.specs.Prelude.{ℕ, ◌+◌, ◌==◌, nat_lt, Bool, false, is_some, List, [], ◌∷◌, length, Option, Some, None, if◌then◌else◌}
use Rattle.std.specs.Borrow.{Bor}
use Rattle.std.specs.List.{slice_split}
use Rattle.config_text.specs.Command.{command_from, grammar_of, is_noun}
use Rattle.config_text.specs.Operand.{allows, kind_of}
use Rattle.config_text.specs.declared.command.EditCommand.{EditCommand}
use Rattle.config_text.specs.declared.fault.LineFault.{LineFault}
use Rattle.config_text.specs.declared.fault.LineFaultKind.{LineFaultKind}
use Rattle.config_text.specs.declared.fault.LineFaultKind.TheVariants.{TooLong, Empty, UnknownWord, Missing, Extra}
use Rattle.config_text.specs.declared.operand.Form.{Form}

-- the words of a line: what stands before, between and after its spaces
abbrev pub words : List ℕ → List (List ℕ)
words line = slice_split (λ b. b == 32) line

abbrev pub fault : ℕ → LineFaultKind → Option LineFault
fault column kind = Some (record { column = column; kind = kind })

-- the words of the rest of a line; after the last word there is none
abbrev pub words_in : Option (Bor (List ℕ)) → List (List ℕ)
words_in None = []
words_in (Some rest) = words rest.now

-- how many bytes of a line are left, with the space or the end before them
abbrev pub left_len : Option (Bor (List ℕ)) → ℕ
left_len None = 0
left_len (Some rest) = length rest.now + 1

-- Below, a line has `end` bytes, and of these `column` stand before the words that are left.

-- a word has to be there, of a byte at least
abbrev pub absence : ℕ → ℕ → List (List ℕ) → Option LineFault
absence end column [] = fault end Missing
absence end column (word ∷ words) = if length word == 0 then fault column Empty else None

-- the word has a byte and passes a test, or this is its fault; then comes the fault of what follows
abbrev pub word_fault : ℕ → List ℕ → Bool → LineFaultKind → Option LineFault → Option LineFault
word_fault column word passes kind rest =
    if length word == 0 then fault column Empty else if passes then rest else fault column kind

-- the words have to be of these forms, and no more
abbrev pub forms_fault : ℕ → ℕ → List Form → List (List ℕ) → Option LineFault
forms_fault end column [] [] = None
forms_fault end column [] (word ∷ words) = word_fault column word false Extra None
forms_fault end column (form ∷ forms) [] = fault end Missing
forms_fault end column (form ∷ forms) (word ∷ words) =
    word_fault column word (allows form word) (kind_of form)
    (forms_fault end (column + length word + 1) forms words)

-- what follows the first two words
abbrev pub command_fault : ℕ → ℕ → Option EditCommand → List (List ℕ) → Option LineFault
command_fault end column None words = None
command_fault end column (Some command) words = forms_fault end column (grammar_of command).forms words

-- the second word, and what follows it
abbrev pub verb_fault : ℕ → ℕ → List ℕ → List (List ℕ) → Option LineFault
verb_fault end column noun [] = fault end Missing
verb_fault end column noun (verb ∷ words) =
    let command = command_from noun verb in
    word_fault column verb (is_some command) UnknownWord
    (command_fault end (column + length verb + 1) command words)

-- the first faulty word from the left
abbrev pub words_fault : ℕ → List (List ℕ) → Option LineFault
words_fault end [] = fault end Missing
words_fault end (noun ∷ words) =
    word_fault 0 noun (is_noun noun) UnknownWord (verb_fault end (length noun + 1) noun words)

-- the fault of a line
abbrev pub line_fault : List ℕ → Option LineFault
line_fault line =
    if nat_lt 1024 (length line) then fault 0 TooLong else words_fault (length line) (words line)
