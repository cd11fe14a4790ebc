-- Which of a target's responses answers the Connect of a connection.
use Rattle.std.specs.Prelude.{ℕ, ◌+◌, ◌-◌, ◌^◌, ◌==◌, ◌&&◌, ◌||◌, Bool, true, false, min, nat_lt, List, length, slice_index, slice_range, Option, Some, None, if◌then◌else◌}
use Rattle.nvt_fields.specs.declared.status.Status.{Status}
use Rattle.pdu_codec.specs.Sqe.{entry_in, fctype_of, opcode_of}
use Rattle.pdu_words.specs.Explanation.{explanation_of}
use Rattle.pdu_words.specs.declared.explanation.ResponseFields.{ResponseFields}
use Rattle.pdu_words.specs.declared.explanation.Explanation.{Explanation}
use Rattle.pdu_words.specs.declared.explanation.Explanation.TheVariants.{CapsuleResp}
use Rattle.connection_log.specs.declared.stage.Stage.{Stage}
use Rattle.connection_log.specs.declared.stage.Stage.TheVariants.{Before, Waits, Over}

-- the header of the CapsuleCmd, of type 04h, that begins with these bytes
abbrev pub capsule_header : List ℕ → Option (List ℕ)
capsule_header front =
    if nat_lt (length front) 72 then None else if slice_index front 0 == 4 then Some (slice_range front 0 72) else None

-- a Fabrics command of type 01h (Base 2.0, section 6.3)
abbrev pub is_connect : List ℕ → Bool
is_connect entry = opcode_of entry == 0x7F && fctype_of entry == 1

-- A command more waits for its answer, or is the Connect.
abbrev pub after_ask : Bool → ℕ → Stage
after_ask connect ahead = if connect then Waits ahead false else Before (min (ahead + 1) (2 ^ 32 - 1))

abbrev pub after_capsule : Option (List ℕ) → ℕ → Stage
after_capsule None ahead = Before ahead
after_capsule (Some header) ahead = after_ask (is_connect (entry_in header)) ahead

-- after a whole PDU of the host that begins with these bytes
unfoldable pub after_request : List ℕ → ℕ → Stage
after_request front ahead = after_capsule (capsule_header front) ahead

-- bytes came behind a Connect that waits
abbrev pub passed_over : Stage → Stage
passed_over (Before ahead) = Before ahead
passed_over (Waits ahead passed) = Waits ahead true
passed_over Over = Over

abbrev pub response_of : Explanation → Option ResponseFields
response_of (CapsuleResp completion command) = Some completion
response_of _ = None

-- what the response says that begins with these bytes
unfoldable pub response_in : List ℕ → Option ResponseFields
response_in front = response_of (explanation_of front None)

-- A response is told where none comes before that of the Connect.
abbrev pub told_by : Option ResponseFields → Stage → Option ResponseFields
told_by response (Before ahead) = None
told_by response (Waits ahead passed) = if ahead == 0 then response else None
told_by response Over = None

-- Successful Completion: behind a Connect that is answered so no other is looked for
abbrev pub is_success : Status → Bool
is_success s = s.sct == 0 && s.sc == 0

-- A response answers the oldest command. Behind a Connect that is refused others may come, unless bytes were passed
-- over.
abbrev pub after_response : Bool → Stage → Stage
after_response succeeded (Before ahead) = Before (ahead - 1)
after_response succeeded (Waits ahead passed) =
    if ahead == 0 then (if succeeded || passed then Over else Before 0) else Waits (ahead - 1) passed
after_response succeeded Over = Over

-- after a whole PDU of the target
abbrev pub after_reply : Option ResponseFields → Stage → Stage
after_reply None s = s
after_reply (Some completion) s = after_response (is_success completion.status) s
