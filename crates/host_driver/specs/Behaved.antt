-- What a controller that keeps the rules of the transport sends, and what its host makes of it (TCP
-- Transport 1.0, section 3.3).
use Rattle.std.specs.Prelude.{◌≡◌, ◌≤◌, ◌+◌, ◌%◌, ◌^◌, ◌++◌, not, ℕ, true, List, length, Some, if◌then◌else◌}
use Rattle.nvt_fields.specs.declared.pdu_type.PduType.TheVariants as types
use Rattle.tables.specs.NumberTable.{place}
use Rattle.pdu_cut.specs.Front.{whole}
use Rattle.pdu_cut.specs.Pdu.{Pdu, data_part, header_part}
use Rattle.pdu_codec.specs.declared.data_head.DataHead.{DataHead}
use Rattle.pdu_codec.specs.declared.initialize.IcResp.{IcResp}
use Rattle.pdu_codec.specs.declared.r2t.R2t.{R2t}
use Rattle.pdu_codec.specs.DataHead.{data_head_of}
use Rattle.pdu_codec.specs.Initialize.{ic_resp_of}
use Rattle.pdu_codec.specs.R2t.{r2t_of}
use Rattle.host_driver.specs.declared.decision.CommandCompletion.{CommandCompletion}
use Rattle.host_driver.specs.declared.phase.Phase.TheVariants.{Opened, Initialized, Connected}
use Rattle.host_driver.specs.declared.phase.TransportLimits.{TransportLimits}
use Rattle.host_driver.specs.Decision.{is_success, response_in}
use Rattle.host_driver.specs.Event.{taken}
use Rattle.host_driver.specs.Pending.{Pending}
use Rattle.host_driver.specs.State.{HostState}
use Rattle.host_driver.specs.Told.{Told, answers, connects, quiet, refuses, success, tells}

-- ---- what it sends

-- an ICResp that a host can work with
pub record IsAgreeable (r : IcResp) : Type 0 where
  pub version : r.pfv ≡ 0
  pub alignment : r.cpda ≤ 31
  pub digests : r.dgst ≡ 0
  pub longest : 4096 ≤ r.maxh2cdata
  pub multiple : r.maxh2cdata % 4 ≡ 0

-- an R2T for the next of a command's data
pub record AsksNext (p : Pending) (request : R2t) : Type 0 where
  pub some : 1 ≤ length p.out
  pub next : request.r2to ≡ p.asked
  pub within : p.asked + request.r2tl ≤ length p.out

-- the next of the data that a command wants; those that stand for its completion are the last
pub record BringsNext (p : Pending) (head : DataHead) (bytes : List ℕ) : Type 0 where
  pub wanted : 1 ≤ p.into
  pub len : head.datal ≡ length bytes
  pub next : head.datao ≡ length p.came
  pub within : length p.came + length bytes ≤ p.into
  pub marked : head.success ≡ true → head.last_pdu ≡ true
  pub all : head.success ≡ true → length p.came + length bytes ≡ p.into

-- a response to a command: one of success comes behind all of its data
abbrev pub Completes : Pending → CommandCompletion → Type 0
Completes p response = is_success response.status ≡ true → p.into ≤ length p.came

-- ---- what the host makes of it

-- the Connect's reply
abbrev pub connect_told : CommandCompletion → Told
connect_told response = if is_success response.status then connects (response.result % 2 ^ 16) else refuses response.status

-- the reply to a command, behind these data
abbrev pub reply_told : CommandCompletion → List ℕ → Told
reply_told response came =
    answers (record { cid = response.cid; status = response.status; data_result = response.result; payload = came })

-- data: the command is answered where they stand for its completion
abbrev pub data_told : DataHead → List ℕ → Told
data_told head came =
    if not head.success then quiet else answers (record { cid = head.cccid; status = success; data_result = 0; payload = came })

abbrev pub tells_pdu : HostState → Pdu → Told
tells_pdu s pdu = tells s (taken (whole pdu))

-- An ICResp comes first, and is accepted; the reply to the Connect, command 0, connects or is a refusal;
-- each R2T and each piece of data is taken, and tells nothing by itself; each reply is the answer to its
-- command, with the data that came of it. So a controller that keeps the rules is never at fault.
pub record Understands : Type 0 where
  pub first : (s : HostState) (pdu : Pdu) → s.phase ≡ Opened → pdu.kind ≡ types.IcResp → IsAgreeable (ic_resp_of (header_part pdu)) → tells_pdu s pdu ≡ quiet
  pub connect : (s : HostState) (pdu : Pdu) (limits : TransportLimits) (p : Pending) → s.phase ≡ Initialized limits → pdu.kind ≡ types.CapsuleResp
      → place s.commands (response_in pdu).cid ≡ Some p → Completes p (response_in pdu) → tells_pdu s pdu ≡ connect_told (response_in pdu)
  pub reply : (s : HostState) (pdu : Pdu) (limits : TransportLimits) (p : Pending) → s.phase ≡ Connected limits → pdu.kind ≡ types.CapsuleResp
      → place s.commands (response_in pdu).cid ≡ Some p → Completes p (response_in pdu) → tells_pdu s pdu ≡ reply_told (response_in pdu) p.came
  pub bytes : (s : HostState) (pdu : Pdu) (limits : TransportLimits) (p : Pending) → s.phase ≡ Connected limits → pdu.kind ≡ types.C2hData
      → place s.commands (data_head_of (header_part pdu)).cccid ≡ Some p → BringsNext p (data_head_of (header_part pdu)) (data_part pdu)
      → tells_pdu s pdu ≡ data_told (data_head_of (header_part pdu)) (p.came ++ data_part pdu)
  pub request : (s : HostState) (pdu : Pdu) (limits : TransportLimits) (p : Pending) → s.phase ≡ Connected limits → pdu.kind ≡ types.R2t
      → place s.commands (r2t_of (header_part pdu)).cccid ≡ Some p → AsksNext p (r2t_of (header_part pdu)) → tells_pdu s pdu ≡ quiet
