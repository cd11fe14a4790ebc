-- The lines of a replay that open and close connections and carry bytes.
use Rattle.std.specs.Prelude.{◌≡◌, ◌≢◌, ◌==◌, ℕ, List, ◌++◌, codes}
use Rattle.std.specs.List.{before_first, after_first}
use Rattle.config_text.specs.Number.{IsNumber}
use Rattle.replay_words.specs.declared.lines.PrintedLine.{PrintedLine}
use Rattle.replay_words.specs.declared.lines.PrintedLine.TheVariants as printed
use Rattle.replay_words.specs.declared.lines.ScriptLine.{ScriptLine}
use Rattle.replay_words.specs.declared.lines.ScriptLine.TheVariants as script

-- what stands before the first space, and what follows it
abbrev pub word_of : List ℕ → List ℕ
word_of line = before_first (λ b. b == 32) line

abbrev pub rest_of : List ℕ → List ℕ
rest_of line = after_first (λ b. b == 32) line

-- the line has none of the forms: nothing that it begins with is a number before `open`, `closed` or `pdu HEX`
abbrev pub IsOtherPrinted : List ℕ → Type 0
IsOtherPrinted line = (number : ℕ) → IsNumber (word_of line) number
    → (rest_of line ≢ codes "open") × (rest_of line ≢ codes "closed") × ((hex : List ℕ) → rest_of line ≢ codes "pdu " ++ hex)

abbrev pub SaysPrinted : List ℕ → PrintedLine → Type 0
SaysPrinted line (printed.Open number) = IsNumber (word_of line) number × (rest_of line ≡ codes "open")
SaysPrinted line (printed.Closed number) = IsNumber (word_of line) number × (rest_of line ≡ codes "closed")
SaysPrinted line (printed.Pdu number hex) = IsNumber (word_of line) number × (rest_of line ≡ codes "pdu " ++ hex.now)
SaysPrinted line printed.Other = IsOtherPrinted line

-- neither `rx K ..` nor `end K`
abbrev pub IsOtherScript : List ℕ → Type 0
IsOtherScript line = (number : ℕ) (rest : List ℕ)
    → (line ≡ codes "rx " ++ rest → ¬ IsNumber (word_of rest) number)
    × (line ≡ codes "end " ++ rest → ¬ IsNumber rest number)

abbrev pub SaysScript : List ℕ → ScriptLine → Type 0
SaysScript line (script.Receive number hex) =
    (rest : List ℕ) × (line ≡ codes "rx " ++ rest) × IsNumber (word_of rest) number × (hex.now ≡ rest_of rest)
SaysScript line (script.End number) = (word : List ℕ) × (line ≡ codes "end " ++ word) × IsNumber word number
SaysScript line script.Other = IsOtherScript line
