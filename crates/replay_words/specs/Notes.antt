-- What the lines of a replay tell of its connections, and the notes on its PDUs.
use Rattle.std.specs.Prelude.{◌≡◌, ℕ, List, [], take, Option, Some, None, Result, Ok, Err}
use Rattle.std.specs.declared.alloc.AllocError.{AllocError}
use Rattle.hex.specs.Hex.{decode_of}
use Rattle.hex.specs.declared.error.FromHexError.{FromHexError}
use Rattle.tables.specs.NumberTable.{place, without}
use Rattle.pdu_words.specs.declared.explanation.Explanation.{Explanation}
use Rattle.replay_words.specs.HostStreams.{Known, HeardOn, opened_at, said_on, after_saying}
use Rattle.replay_words.specs.declared.lines.PrintedLine.{PrintedLine}
use Rattle.replay_words.specs.declared.lines.PrintedLine.TheVariants as printed
use Rattle.replay_words.specs.declared.lines.ScriptLine.{ScriptLine}
use Rattle.replay_words.specs.declared.lines.ScriptLine.TheVariants as script
use Rattle.replay_words.specs.Lines.{SaysPrinted, SaysScript}

abbrev pub bytes_by : Result (List ℕ) FromHexError → Option (List ℕ)
bytes_by (Ok bytes) = Some bytes
bytes_by (Err fault) = None

-- the bytes that some digits say, if each of them is one and they are pairs
abbrev pub bytes_of : List ℕ → Option (List ℕ)
bytes_of hex = bytes_by (decode_of hex)

-- the digits of the first 8,192 bytes: of a PDU the words say nothing that stands behind them
abbrev pub head_of : List ℕ → List ℕ
head_of hex = take 16384 hex

-- a connection hears bytes, if there are any, and this text is told of it
abbrev pub HearsBytes : ℕ → Option (List ℕ) → Known → Known → List ℕ → Type 0
HearsBytes number None old new text = (new ≡ old) × (text ≡ [])
HearsBytes number (Some bytes) old new text = HeardOn number old new bytes text

-- `rx` lines are heard, and `end` lines close
abbrev pub HearsSaid : ScriptLine → Known → Known → List ℕ → Type 0
HearsSaid (script.Receive number hex) old new text = HearsBytes number (bytes_of hex.now) old new text
HearsSaid (script.End number) old new text = (new ≡ without old number) × (text ≡ [])
HearsSaid script.Other old new text = (new ≡ old) × (text ≡ [])

abbrev pub HearsLine : List ℕ → Known → Known → List ℕ → Type 0
HearsLine line old new text = (said : ScriptLine) × SaysScript line said × HearsSaid said old new text

-- what a PDU is, and the first of its bytes
pub record Noted : Type 0 where
  pub explanation : Explanation
  pub bytes : List ℕ

-- what is noted of a PDU, if its digits say bytes, and what is outstanding after it
abbrev pub NotesPdu : ℕ → Option (List ℕ) → Known → Known → Option Noted → Type 0
NotesPdu number None old new note = (note ≡ None) × (new ≡ old)
NotesPdu number (Some head) old new note =
    (note ≡ Some (record { explanation = said_on (place old number) head; bytes = head })) × (new ≡ after_saying number (place old number) head old)

-- connections open and close, and PDUs are explained
abbrev pub NotesSaid : PrintedLine → Known → Known → Option Noted → Type 0
NotesSaid (printed.Open number) old new note = (note ≡ None) × (new ≡ opened_at number old)
NotesSaid (printed.Closed number) old new note = (note ≡ None) × (new ≡ without old number)
NotesSaid (printed.Pdu number hex) old new note = NotesPdu number (bytes_of (head_of hex.now)) old new note
NotesSaid printed.Other old new note = (note ≡ None) × (new ≡ old)

abbrev pub NotesLine : List ℕ → Known → Known → Result (Option Noted) AllocError → Type 0
NotesLine line old new (Ok note) = (said : PrintedLine) × SaysPrinted line said × NotesSaid said old new note
NotesLine line old new (Err fault) = Unit {0}
