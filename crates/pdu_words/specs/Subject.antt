-- Which command a PDU speaks of.
use Rattle.std.specs.Prelude.{◌==◌, ◌&&◌, ◌%◌, Bool, true, false, Option, Some, None, if◌then◌else◌}
use Rattle.pdu_words.specs.declared.command.Command.TheVariants as command
use Rattle.pdu_words.specs.declared.explanation.ResponseFields.{ResponseFields}
use Rattle.pdu_words.specs.declared.explanation.Explanation.{Explanation}
use Rattle.pdu_words.specs.declared.explanation.Explanation.TheVariants as explanation
use Rattle.pdu_words.specs.declared.subject.Subject.{Subject}
use Rattle.pdu_words.specs.declared.subject.Which.TheVariants.{Oldest, Newest}

-- A conflict of identifiers (status 03h) is that of the newest command with its CID: the others go on.
abbrev pub subject_of_completion : ResponseFields → Subject
subject_of_completion completion = record {
  which = if completion.status.sct == 0 && completion.status.sc == 0x03 then Newest else Oldest;
  cid = completion.cid;
}

-- where a host uses a CID twice the first command goes on: answers, data and R2Ts are of it, but for a conflict
abbrev pub subject_of : Explanation → Option Subject
subject_of (explanation.CapsuleCmd cid command) = Some (record { which = Newest; cid = cid })
subject_of (explanation.CapsuleResp completion command) = Some (subject_of_completion completion)
subject_of (explanation.H2cData head command) = Some (record { which = Oldest; cid = head.cccid })
subject_of (explanation.C2hData head command) = Some (record { which = Oldest; cid = head.cccid })
subject_of (explanation.R2t request command) = Some (record { which = Oldest; cid = request.cccid })
subject_of _ = None

-- the command is not outstanding after a response, or after data that stands for one
abbrev pub completes : Explanation → Bool
completes (explanation.CapsuleResp completion command) = true
completes (explanation.C2hData head command) = head.success
completes _ = false

-- A Property Set of CC, with success, that clears EN is a reset: no command sent before it is outstanding after it
-- (Base 2.0, section 3.7.2). EN is bit 0 of CC, and CC the property at 14h.
abbrev pub resets : Explanation → Bool
resets (explanation.CapsuleResp completion (Some (command.PropertySet offset value))) =
    completion.status.sct == 0 && completion.status.sc == 0x00 && offset == 0x14 && value % 2 == 0
resets _ = false
