-- The lines of the log, without their end.
use Rattle.std.specs.Prelude.{ℕ, ◌==◌, ◌||◌, ◌%◌, ◌/◌, true, nat_lt, List, [], ◌∷◌, ◌++◌, codes, flat_map, Option, Some, None, if◌then◌else◌}
use Rattle.std.specs.Fmt.{decimal, digits}
use Rattle.std.specs.Net.Text.{socket_text}
use Rattle.connection_log.specs.Asked.{Asked}
use Rattle.connection_log.specs.declared.lines.Ending.{Ending}
use Rattle.connection_log.specs.declared.lines.Ending.TheVariants as ending
use Rattle.connection_log.specs.declared.lines.LogLine.{LogLine}
use Rattle.connection_log.specs.declared.lines.LogLine.TheVariants as line
use Rattle.pdu_codec.specs.declared.termination.TermReq.{TermReq}
use Rattle.pdu_words.specs.declared.explanation.ResponseFields.{ResponseFields}
use Rattle.pdu_words.specs.Words.{connect_answer_words, termination_words}

-- ---- bytes that a peer chose

-- A byte is shown as it is where it is ASCII that prints, but for `"` and `\`, and else as `\x` and two hex digits.
abbrev pub shown_byte : ℕ → List ℕ
shown_byte b =
    if nat_lt b 0x20 || nat_lt 0x7E b || b == 0x22 || b == 0x5C
    then codes "\\x" ++ digits 16 true (b / 16) ++ digits 16 true (b % 16) else
    b ∷ []

abbrev pub shown : List ℕ → List ℕ
shown bytes = flat_map shown_byte bytes

-- ---- connections

abbrev pub asked_words : Option Asked → List ℕ
asked_words None = []
asked_words (Some asked) =
    codes " of " ++ shown asked.host ++ codes " to " ++ shown asked.subsystem ++ codes ", queue " ++ decimal asked.qid

abbrev pub ending_words : Ending → List ℕ
ending_words ending.Closed = codes "closed by the host"
ending_words ending.Reset = codes "reset"
ending_words ending.Gone = codes "given up: the host does not answer"
ending_words ending.WithoutConnect = codes "given up: no Connect succeeded in time"
ending_words ending.TookNothing = codes "given up: the host took nothing"
ending_words (ending.Terminated request) = codes "ended by the target: " ++ termination_words (codes "C2HTermReq") request
ending_words ending.ByTarget = codes "ended by the target"

abbrev pub ending_by : Option Ending → Option TermReq → Ending
ending_by (Some known) termination = known
ending_by None (Some request) = ending.Terminated request
ending_by None None = ending.ByTarget

abbrev pub connection_words : ℕ → List ℕ
connection_words number = codes "connection " ++ decimal number ++ codes ": "

abbrev pub answered_words : ℕ → Option Asked → ResponseFields → List ℕ
answered_words number asked completion =
    connection_words number ++ codes "Connect" ++ asked_words asked ++ codes ": " ++ connect_answer_words completion

-- ---- edits

abbrev pub edited_words : List ℕ → List ℕ → List ℕ
edited_words edit reply = codes "edit \"" ++ shown edit ++ codes "\": " ++ shown reply

-- ---- lines

abbrev pub line_words : LogLine → List ℕ
line_words (line.Opened number peer port) =
    connection_words number ++ socket_text peer ++ codes " connected to port " ++ decimal port
line_words (line.NoSlot peer port) =
    socket_text peer ++ codes " connected to port " ++ decimal port ++ codes ", and was closed: 64 hosts are connected"
line_words (line.Answered number asked_for completion) = answered_words number asked_for completion
line_words (line.Ended number ending) = connection_words number ++ ending_words ending
line_words (line.Edited edit reply) = edited_words edit.now reply.now
line_words (line.LeftOut count) = codes "lines left out: " ++ decimal count
