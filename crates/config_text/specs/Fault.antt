-- The words of a line's fault.
use Rattle.std.specs.Prelude.{ℕ, List, ◌∷◌, ◌++◌, codes}
use Rattle.std.specs.Fmt.{decimal}
use Rattle.config_text.specs.declared.fault.LineFault.{LineFault}
use Rattle.config_text.specs.declared.fault.LineFaultKind.{LineFaultKind}
use Rattle.config_text.specs.declared.fault.LineFaultKind.TheVariants.{TooLong, Empty, UnknownWord, Missing, BadNumber, BadNqn, BadUuid, BadWord, Extra, Memory}

abbrev pub word_of_kind : LineFaultKind → List ℕ
word_of_kind TooLong = codes "TooLong"
word_of_kind Empty = codes "Empty"
word_of_kind UnknownWord = codes "UnknownWord"
word_of_kind Missing = codes "Missing"
word_of_kind BadNumber = codes "BadNumber"
word_of_kind BadNqn = codes "BadNqn"
word_of_kind BadUuid = codes "BadUuid"
word_of_kind BadWord = codes "BadWord"
word_of_kind Extra = codes "Extra"
word_of_kind Memory = codes "Memory"

-- the column in decimal, and the kind
abbrev pub reply_of_line_fault : LineFault → List ℕ
reply_of_line_fault fault = codes "line " ++ decimal fault.column ++ 32 ∷ word_of_kind fault.kind

-- that memory ran out, which is no fault of the line
abbrev pub memory_fault : LineFault
memory_fault = record { column = 0; kind = Memory }
