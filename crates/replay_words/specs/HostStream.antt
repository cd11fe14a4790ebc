-- What was heard on one connection, and what is said on it.
use Rattle.std.specs.Prelude.{◌≡◌, ℕ, Bool, true, false, List, [], Option, Some, None, if◌then◌else◌}
use Rattle.pdu_words.specs.declared.explanation.Explanation.{Explanation}
use Rattle.pdu_words.specs.declared.subject.Subject.{Subject}
use Rattle.replay_words.specs.Hearing.{Hears, explanation_by, subject_said}
use Rattle.replay_words.specs.Outstanding.{Outstanding, none_outstanding, behind_subject, without_subject}
use Rattle.pdu_words.specs.Subject.{completes, resets}

-- what the host sent that is less than a PDU; whether a fault came; and the commands
pub record Heard : Type 0 where
  pub held : List ℕ
  pub deaf : Bool
  pub commands : Outstanding

abbrev pub nothing_heard : Heard
nothing_heard = record { held = []; deaf = false; commands = none_outstanding }

-- Nothing is heard after a fault, and nothing told. Before, the PDUs that the bytes make whole are, and the text is their
-- lines.
abbrev pub ListensBy : Bool → ℕ → Heard → Heard → List ℕ → List ℕ → Type 0
ListensBy true number old new bytes text = (new ≡ old) × (text ≡ [])
ListensBy false number old new bytes text = Hears number old.held new.held old.commands new.commands bytes text new.deaf

abbrev pub Listens : ℕ → Heard → Heard → List ℕ → List ℕ → Type 0
Listens number old new bytes text = ListensBy old.deaf number old new bytes text

abbrev pub words_said : Heard → List ℕ → Explanation
words_said heard pdu = explanation_by heard.commands pdu

-- the commands that are outstanding after a PDU: a reset drops those sent before it
abbrev pub commands_by : Option Subject → Explanation → Outstanding → Outstanding
commands_by None said o = o
commands_by (Some subject) said o =
    if resets said then record o { sent = behind_subject subject o.sent } else
    if completes said then record o { sent = without_subject subject o.sent } else o

abbrev pub saying : Heard → List ℕ → Heard
saying heard pdu = record heard { commands = commands_by (subject_said pdu) (words_said heard pdu) heard.commands }
