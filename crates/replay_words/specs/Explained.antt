-- What is kept of a line while it is written, what is noted at its end, and what the writer below gets of both.
use Rattle.std.specs.Prelude.{◌≡◌, ℕ, ◌-◌, ◌==◌, not, ◌⊎◌, List, [], ◌∷◌, ◌++◌, codes, length, take, Option, Some, None, Ok}
use Rattle.std.specs.Io.KnownBytes.{Appends}
use Rattle.std.specs.List.{AllPass}
use Rattle.pdu_words.specs.Pages.{described_words}
use Rattle.replay_words.specs.HostStreams.{Known}
use Rattle.replay_words.specs.Notes.{HearsLine, Noted, NotesLine}

-- the line with more of it, up to 16,409 bytes: a number, ` pdu ` and 16,384 digits
abbrev pub kept : List ℕ → List ℕ → List ℕ
kept line piece = line ++ take (16409 - length line) piece

-- ` # ` and the words of a note, if there is one
abbrev pub words_behind : Option Noted → List ℕ
words_behind None = []
words_behind (Some note) = codes " # " ++ described_words note.explanation note.bytes

-- a part of a line, without an end: the bytes known of the writer below grow by it
pub record GoesOn (line new_line : List ℕ) (old new : Known) (taken : List ℕ) (below new_below : Option (List ℕ)) : Type 0 where
  pub no_end : AllPass (λ b. not (b == 10)) taken
  pub kept : new_line ≡ kept line taken
  pub same : new ≡ old
  pub passed_on : Appends below new_below taken

-- the end of a line, which is noted: they grow by the words of the note, and by the end
pub record Ends (line new_line : List ℕ) (old new : Known) (taken : List ℕ) (below new_below : Option (List ℕ)) : Type 0 where
  pub is_end : taken ≡ 10 ∷ []
  pub begins : new_line ≡ []
  pub note : Option Noted
  pub noted : NotesLine line old new (Ok note)
  pub passed_on : Appends below new_below (words_behind note ++ 10 ∷ [])

-- what is taken is the one or the other
abbrev pub Passes : List ℕ → List ℕ → Known → Known → List ℕ → Option (List ℕ) → Option (List ℕ) → Type 0
Passes line new_line old new taken below new_below =
    GoesOn line new_line old new taken below new_below ⊎ Ends line new_line old new taken below new_below

-- a line of the script was heard the last
abbrev pub WasHeard : List ℕ → Known → Type 0
WasHeard line new = (old : Known) × (text : List ℕ) × HearsLine line old new text
