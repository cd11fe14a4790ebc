-- What was heard on each connection.
use Rattle.std.specs.Prelude.{◌≡◌, ℕ, List, [], Option, Some, None, nat_lt, if◌then◌else◌}
use Rattle.tables.specs.NumberTable.{place, with_value}
use Rattle.pdu_words.specs.declared.explanation.Explanation.{Explanation}
use Rattle.replay_words.specs.HostStream.{Heard, Listens, nothing_heard, saying, words_said}
use Rattle.pdu_words.specs.Explanation.{explanation_of}

-- what is known of each connection, by its number: 64 places, of which those that are not open are empty
abbrev pub Known : Type 0
Known = List (Option Heard)

abbrev pub opened_at : ℕ → Known → Known
opened_at number known = if nat_lt number 64 then with_value known number nothing_heard else known

-- the connection, if it is open, hears the bytes, and no other does; this text is told of it
abbrev pub HeardBy : Option Heard → ℕ → Known → Known → List ℕ → List ℕ → Type 0
HeardBy None number old new bytes text = (new ≡ old) × (text ≡ [])
HeardBy (Some heard) number old new bytes text =
    (after : Heard) × Listens number heard after bytes text × (new ≡ with_value old number after)

abbrev pub HeardOn : ℕ → Known → Known → List ℕ → List ℕ → Type 0
HeardOn number old new bytes text = HeardBy (place old number) number old new bytes text

-- what a PDU is on a connection, and without a command where the connection is not open
abbrev pub said_on : Option Heard → List ℕ → Explanation
said_on None pdu = explanation_of pdu None
said_on (Some heard) pdu = words_said heard pdu

abbrev pub after_saying : ℕ → Option Heard → List ℕ → Known → Known
after_saying number None pdu known = known
after_saying number (Some heard) pdu known = with_value known number (saying heard pdu)
