-- What a connection's commands are once its host has sent these bytes, in whatever pieces they come, and what is told of
-- the PDUs in them.
use Rattle.std.specs.Prelude.{◌≡◌, ℕ, Bool, true, false, List, [], ◌∷◌, ◌++◌, codes, Option, Some, None}
use Rattle.std.specs.Fmt.{decimal}
use Rattle.nvt_fields.specs.declared.pdu_type.PduType.{PduType}
use Rattle.nvt_fields.specs.declared.pdu_type.PduType.TheVariants as types
use Rattle.pdu_cut.specs.declared.side.Side.TheVariants.{Target}
use Rattle.pdu_cut.specs.Front.{Front, faulty, front}
use Rattle.pdu_cut.specs.Pdu.{Pdu, header_part}
use Rattle.pdu_cut.specs.Stream.{IsCut}
use Rattle.pdu_codec.specs.Sqe.{entry_in}
use Rattle.pdu_words.specs.declared.command.Command.{Command}
use Rattle.pdu_words.specs.declared.explanation.Explanation.{Explanation}
use Rattle.pdu_words.specs.declared.subject.Subject.{Subject}
use Rattle.pdu_words.specs.Explanation.{explanation_of}
use Rattle.pdu_words.specs.Pages.{described_words}
use Rattle.pdu_words.specs.Subject.{subject_of}
use Rattle.replay_words.specs.Outstanding.{Outstanding, command_of_subject, sent_after}

-- a capsule brings a command, and no other PDU does
abbrev pub after_kind : PduType → Pdu → Outstanding → Outstanding
after_kind types.CapsuleCmd pdu o = sent_after (entry_in (header_part pdu)) o
after_kind _ pdu o = o

abbrev pub after_pdu : Pdu → Outstanding → Outstanding
after_pdu pdu o = after_kind pdu.kind pdu o

-- after these PDUs, one after another
abbrev pub after_pdus : List Pdu → Outstanding → Outstanding
after_pdus [] o = o
after_pdus (pdu ∷ pdus) o = after_pdus pdus (after_pdu pdu o)

-- the command that a PDU speaks of, if it speaks of one that is kept
abbrev pub command_by : Option Subject → Outstanding → Option Command
command_by None o = None
command_by (Some subject) o = command_of_subject subject o.sent

abbrev pub subject_said : List ℕ → Option Subject
subject_said pdu = subject_of (explanation_of pdu None)

-- what a PDU is, of these bytes, with its command where that is kept
abbrev pub explanation_by : Outstanding → List ℕ → Explanation
explanation_by o pdu = explanation_of pdu (command_by (subject_said pdu) o)

-- `K host # `, and the words for the header of a PDU that the host of connection K sent
abbrev pub host_line : ℕ → Outstanding → Pdu → List ℕ
host_line number o pdu =
    decimal number ++ codes " host # " ++ described_words (explanation_by o (header_part pdu)) (header_part pdu) ++ 10 ∷ []

-- the line of each of these PDUs, one after another, where its command is known
abbrev pub host_lines : ℕ → List Pdu → Outstanding → List ℕ
host_lines number [] o = []
host_lines number (pdu ∷ pdus) o = host_line number (after_pdu pdu o) pdu ++ host_lines number pdus (after_pdu pdu o)

abbrev pub is_faulty : Front → Bool
is_faulty (faulty fault head) = true
is_faulty _ = false

-- the whole PDUs at the front are taken off the bytes that are held, their commands are kept, and their lines appended
pub record TakesPdus (number : ℕ) (held rest : List ℕ) (old new : Outstanding) (text new_text : List ℕ) (fault : Bool) : Type 0 where
  pub pdus : List Pdu
  pub cut : IsCut Target held pdus rest
  pub learnt : new ≡ after_pdus pdus old
  pub told : new_text ≡ text ++ host_lines number pdus old
  pub ends : fault ≡ is_faulty (front Target rest)

-- The bytes held and these are cut into PDUs, whose commands are kept and whose lines are this text, and a
-- rest. That is held, and less than a PDU, unless it begins with a fault.
pub record Hears (number : ℕ) (held new_held : List ℕ) (old new : Outstanding) (bytes text : List ℕ) (fault : Bool) : Type 0 where
  pub pdus : List Pdu
  pub rest : List ℕ
  pub cut : IsCut Target (held ++ bytes) pdus rest
  pub learnt : new ≡ after_pdus pdus old
  pub told : text ≡ host_lines number pdus old
  pub ends : fault ≡ is_faulty (front Target rest)
  pub kept : fault ≡ false → new_held ≡ rest
