-- What a Connect asks for (Base 2.0, section 6.3), and why a target ended a connection, by the first bytes of their
-- PDUs.
use Rattle.std.specs.Prelude.{ℕ, ◌+◌, ◌==◌, ◌&&◌, Bool, true, false, nat_le, List, [], length, drop, slice_index, slice_range, Option, Some, None, if◌then◌else◌}
use Rattle.nvt_fields.specs.Name.{up_to_zero}
use Rattle.pdu_codec.specs.ConnectData.{hostnqn_of, subnqn_of}
use Rattle.pdu_codec.specs.Sqe.{connect_of, entry_in, sgl1_of}
use Rattle.pdu_codec.specs.declared.sgl.Sgl.{Sgl}
use Rattle.pdu_codec.specs.declared.sgl.SglType.{SglType}
use Rattle.pdu_codec.specs.declared.sgl.SglType.TheVariants.{CapsuleOffset, Transport, Other}
use Rattle.pdu_codec.specs.declared.termination.TermReq.{TermReq}
use Rattle.pdu_words.specs.Explanation.{explanation_of}
use Rattle.pdu_words.specs.declared.explanation.Explanation.{Explanation}
use Rattle.pdu_words.specs.declared.explanation.Explanation.TheVariants.{C2hTermReq}
use Rattle.connection_log.specs.Reading.{Reading, is_whole}
use Rattle.connection_log.specs.Stages.{capsule_header, is_connect}

pub record Asked : Type 0 where
  pub qid : ℕ
  pub subsystem : List ℕ
  pub host : List ℕ

-- what stands behind the header of a capsule, from PDO on
abbrev pub payload_in : List ℕ → List ℕ
payload_in front =
    if nat_le 72 (slice_index front 3) && nat_le (slice_index front 3) (length front) then drop (slice_index front 3) front
    else []

abbrev pub is_capsule_offset : SglType → Bool
is_capsule_offset CapsuleOffset = true
is_capsule_offset Transport = false
is_capsule_offset Other = false

-- the data of a Connect, 1,024 bytes, where the capsule has it
abbrev pub data_in : Sgl → List ℕ → Option (List ℕ)
data_in sgl payload =
    if is_capsule_offset sgl.sgl_type && (sgl.len == 1024 && nat_le (sgl.address + 1024) (length payload)) then
    Some (slice_range payload sgl.address (sgl.address + 1024))
    else None

abbrev pub asked_with : ℕ → Option (List ℕ) → Option Asked
asked_with qid None = None
asked_with qid (Some bytes) =
    Some (record { qid = qid; subsystem = up_to_zero (subnqn_of bytes); host = up_to_zero (hostnqn_of bytes) })

unfoldable pub asked_by : List ℕ → List ℕ → Option Asked
asked_by entry payload = asked_with (connect_of entry).qid (data_in (sgl1_of entry) payload)

abbrev pub asked_of : Option (List ℕ) → List ℕ → Option Asked
asked_of None front = None
asked_of (Some header) front =
    if is_connect (entry_in header) then asked_by (entry_in header) (payload_in front) else None

-- what the Connect asks for that begins with these bytes
unfoldable pub asked_in : List ℕ → Option Asked
asked_in front = asked_of (capsule_header front) front

abbrev pub term_req_of : Explanation → Option TermReq
term_req_of (C2hTermReq request) = Some request
term_req_of _ = None

unfoldable pub termination_of : List ℕ → Option TermReq
termination_of front = term_req_of (explanation_of front None)

-- a target sends nothing behind its termination, so that this is its last PDU; one that came in part tells no reason
abbrev pub termination_in : Reading → Option TermReq
termination_in r = if is_whole r then termination_of r.front else None
