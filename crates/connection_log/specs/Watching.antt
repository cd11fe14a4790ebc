-- What is known of a connection after more bytes went by, as if they went by one at a time.
use Rattle.std.specs.Prelude.{ℕ, ◌≤◌, ◌≡◌, List, [], ◌∷◌, ◌++◌, length, take, true, Option, None, if◌then◌else◌}
use Rattle.std.specs.Option.{option_or}
use Rattle.pdu_words.specs.declared.explanation.ResponseFields.{ResponseFields}
use Rattle.connection_log.specs.declared.stage.Stage.{Stage}
use Rattle.connection_log.specs.declared.stage.Stage.TheVariants.{Before, Waits, Over}
use Rattle.connection_log.specs.declared.watch.ConnectionWatch.{ConnectionWatch}
use Rattle.connection_log.specs.Reading.{HasRead, Reading, at_first, is_whole, next_pdu, with_bytes}
use Rattle.connection_log.specs.Stages.{after_reply, after_request, response_in, told_by}

-- it keeps so many bytes of a PDU of the host and of the target
abbrev pub begun : ℕ → ℕ → ConnectionWatch
begun requests replies = record { requests = at_first requests; replies = at_first replies; stage = Before 0 }

abbrev pub with_byte : ℕ → Reading → Reading
with_byte b r = with_bytes (b ∷ []) (next_pdu r)

-- the host's PDU under way came so far, while no Connect waits
abbrev pub requested : Reading → ℕ → Stage
requested r ahead = if is_whole r then after_request r.front ahead else Before ahead

-- after a byte of the host: while a Connect waits, and once it is over, it is not looked at
abbrev pub heard_in : Stage → ℕ → ConnectionWatch → ConnectionWatch
heard_in (Before ahead) b w =
    record w { requests = with_byte b w.requests; stage = requested (with_byte b w.requests) ahead }
heard_in (Waits ahead passed) b w = record w { stage = Waits ahead true }
heard_in Over b w = w

abbrev pub heard : ConnectionWatch → List ℕ → ConnectionWatch
heard w [] = w
heard w (b ∷ bytes) = heard (heard_in w.stage b w) bytes

-- The bytes of the host that were looked at are whole PDUs and the beginning of one: all, while no Connect waits.
pub record HasReadSome (w : ConnectionWatch) (before bytes : List ℕ) : Type 0 where
  pub count : ℕ
  pub within : count ≤ length bytes
  pub read : HasRead w.requests (before ++ take count bytes)
  pub all : (ahead : ℕ) → w.stage ≡ Before ahead → count ≡ length bytes

-- the response that the target's PDU under way is, once it is whole
abbrev pub response_at : Reading → Option ResponseFields
response_at r = if is_whole r then response_in r.front else None

-- the target's PDU under way came so far
abbrev pub replied : Reading → ConnectionWatch → ConnectionWatch
replied r w = record w { replies = r; stage = after_reply (response_at r) w.stage }

abbrev pub told_at : Reading → ConnectionWatch → Option ResponseFields
told_at r w = told_by (response_at r) w.stage

-- after bytes of the target
abbrev pub answered : ConnectionWatch → List ℕ → ConnectionWatch
answered w [] = w
answered w (b ∷ bytes) = answered (replied (with_byte b w.replies) w) bytes

-- what they say to the Connect
abbrev pub told : ConnectionWatch → List ℕ → Option ResponseFields
told w [] = None
told w (b ∷ bytes) =
    option_or (told_at (with_byte b w.replies) w) (told (replied (with_byte b w.replies) w) bytes)
