-- What an admin command comes to: its result, the data that it returns and what it does to the controller, or that it
-- waits, or the status that it is refused with.
use Rattle.std.specs.Prelude.{ℕ, not, ◌==◌, List, Some, None, Result, Ok, Err, Bool, true, false, if◌then◌else◌}
use Rattle.admin_queue.specs.declared.outcome.Accepted.{Accepted}
use Rattle.admin_queue.specs.declared.outcome.Accepted.TheVariants.{Answered, Waits}
use Rattle.admin_queue.specs.declared.outcome.Effect.{Effect}
use Rattle.admin_queue.specs.declared.outcome.Success.{Success}
use Rattle.admin_queue.specs.declared.payload.Payload.{Payload}
use Rattle.admin_queue.specs.Payload.{payload_len}
use Rattle.nvt_fields.specs.declared.status.Status.{Status}
use Rattle.nvt_fields.specs.Status.{data_sgl_length_invalid, sgl_type_invalid}
use Rattle.pdu_codec.specs.declared.sgl.SglType.{SglType}
use Rattle.pdu_codec.specs.declared.sgl.SglType.TheVariants.{CapsuleOffset, Transport, Other}
use Rattle.pdu_codec.specs.Sqe.{sgl1_of}

abbrev pub Outcome : Type 0
Outcome = Result Accepted Status

-- an answer is such, and what waits has none
abbrev pub IfAnswered : (Success → Type 0) → Accepted → Type 0
IfAnswered P (Answered s) = P s
IfAnswered P Waits = Unit {0}

-- without data
abbrev pub done : ℕ → Effect → Outcome
done value effect = Ok (Answered (record { result = value; payload = None; effect = effect }))

-- refused if the test passes, and else what comes next
abbrev pub refuse : Bool → Status → Outcome → Outcome
refuse test status next = if test then Err status else next

abbrev pub is_transport : SglType → Bool
is_transport CapsuleOffset = false
is_transport Transport = true
is_transport Other = false

-- these data, of which the host has to ask for all, in a transport data block (Base 2.0, section 4.1.1)
abbrev pub returned : Payload → Effect → List ℕ → Outcome
returned payload effect entry =
    refuse (not (is_transport (sgl1_of entry).sgl_type)) sgl_type_invalid (
    refuse (not ((sgl1_of entry).len == payload_len payload)) data_sgl_length_invalid (
    Ok (Answered (record { result = 0; payload = Some payload; effect = effect }))))
