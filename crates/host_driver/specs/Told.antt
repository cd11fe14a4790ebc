-- What a queue sends, and what it tells its caller, at an event.
use Rattle.std.specs.Prelude.{ℕ, List, [], ◌++◌, false, Option, Some, None}
use Rattle.tables.specs.NumberTable.{place}
use Rattle.nvt_fields.specs.FatalErrorStatus.{fatal_code_of}
use Rattle.nvt_fields.specs.declared.status.Status.{Status}
use Rattle.nvt_fields.specs.declared.termination.FatalErrorStatus.{FatalErrorStatus}
use Rattle.pdu_codec.specs.declared.r2t.R2t.{R2t}
use Rattle.pdu_codec.specs.TermReq.{h2c_term_req}
use Rattle.host_driver.specs.declared.decision.HostDecision.{HostDecision}
use Rattle.host_driver.specs.declared.decision.HostDecision.TheVariants as decision
use Rattle.host_driver.specs.declared.phase.Phase.{Phase}
use Rattle.host_driver.specs.declared.phase.Phase.TheVariants.{Opened, Initialized, Connected, Failed}
use Rattle.host_driver.specs.declared.phase.TransportLimits.{TransportLimits}
use Rattle.host_driver.specs.declared.params.HostParams.{HostParams}
use Rattle.host_driver.specs.Capsule.{capsule_of}
use Rattle.host_driver.specs.Command.{Command}
use Rattle.host_driver.specs.Connect.{connect_of}
use Rattle.host_driver.specs.Requested.{requested_of}
use Rattle.host_driver.specs.Event.{Event, data_at, head_at, submitted, taken}
use Rattle.host_driver.specs.Pending.{Commands, Pending}
use Rattle.host_driver.specs.State.{HostState, owed}

-- ---- what is sent

-- the data of a command that are asked for
abbrev pub requested_by : TransportLimits → R2t → Option Pending → List ℕ
requested_by limits request None = []
requested_by limits request (Some p) = requested_of limits request p.out

-- the same, by the limits that the ICResp set
abbrev pub requested_in : Phase → Commands → R2t → List ℕ
requested_in (Initialized limits) commands request = requested_by limits request (place commands request.cccid)
requested_in (Connected limits) commands request = requested_by limits request (place commands request.cccid)
requested_in Opened commands request = []
requested_in Failed commands request = []

-- a decision about a front of this header
abbrev pub sends_by : HostParams → HostState → List ℕ → HostDecision → List ℕ
sends_by params s head (decision.Initialize limits) = connect_of limits.cpda params
sends_by params s head (decision.Send request) = requested_in s.phase s.commands request
sends_by params s head (decision.Terminate t) = h2c_term_req (fatal_code_of t.fes) t.fei head
sends_by params s head _ = []

-- a command's capsule, by the alignment that the ICResp set
abbrev pub capsule_in : HostParams → Phase → ℕ → Command → List ℕ
capsule_in params (Connected limits) cid c = capsule_of params.in_capsule limits.cpda cid c
capsule_in params _ cid c = []

abbrev pub sends : HostParams → HostState → Event → List ℕ
sends params s (submitted cid c) = capsule_in params s.phase cid c
sends params s (taken front) = sends_by params s (head_at front) (owed s front)

-- ---- what is told

-- a command that is completed: its identifier, what the controller says of it, and the data that came
pub record Answered : Type 0 where
  pub cid : ℕ
  pub status : Status
  pub data_result : ℕ
  pub payload : List ℕ

-- nothing yet; the Connect succeeded, or was refused; a command is answered; the controller terminated the
-- connection, or the host does
pub data Told : Type 0 where
  quiet : Told
  connects : ℕ → Told
  refuses : Status → Told
  answers : Answered → Told
  closes : ℕ → ℕ → Told
  terminates : FatalErrorStatus → ℕ → Told

abbrev pub came_by : Option Pending → List ℕ
came_by None = []
came_by (Some p) = p.came

abbrev pub success : Status
success = record { sct = 0; sc = 0; dnr = false }

abbrev pub told_by : HostState → List ℕ → HostDecision → Told
told_by s bytes (decision.Connect cntlid) = connects cntlid
told_by s bytes (decision.Refuse status) = refuses status
told_by s bytes (decision.ReceiveLast cid) = answers (record {
  cid = cid;
  status = success;
  data_result = 0;
  payload = came_by (place s.commands cid) ++ bytes;
})
told_by s bytes (decision.Complete response) = answers (record {
  cid = response.cid;
  status = response.status;
  data_result = response.result;
  payload = came_by (place s.commands response.cid);
})
told_by s bytes (decision.Close request) = closes request.fes request.fei
told_by s bytes (decision.Terminate t) = terminates t.fes t.fei
told_by s bytes _ = quiet

abbrev pub tells : HostState → Event → Told
tells s (submitted cid c) = quiet
tells s (taken front) = told_by s (data_at front) (owed s front)
