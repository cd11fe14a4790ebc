-- A queue without what came, and what its calls make of it.
use Rattle.std.specs.Prelude.{◌≡◌, ℕ, ◌≤◌, nat_lt, ◌||◌, Bool, true, false, List, ◌++◌, length, Option, Some, None, Result, Ok, Err, is_none, position, if◌then◌else◌}
use Rattle.pdu_cut.specs.Front.{Front}
use Rattle.host_driver.specs.declared.decision.HostDecision.{HostDecision}
use Rattle.host_driver.specs.declared.decision.HostDecision.TheVariants as decision
use Rattle.host_driver.specs.declared.phase.Phase.{Phase}
use Rattle.host_driver.specs.declared.phase.Phase.TheVariants.{Opened, Initialized, Connected, Failed}
use Rattle.host_driver.specs.declared.phase.TransportLimits.{TransportLimits}
use Rattle.host_driver.specs.Within.{AreLimits, Fits, IsNext}
use Rattle.host_driver.specs.declared.params.HostParams.{HostParams}
use Rattle.host_driver.specs.Command.{Command}
use Rattle.host_driver.specs.Requested.{requested_room}
use Rattle.host_driver.specs.Event.{Event, data_at, submitted, taken}
use Rattle.host_driver.specs.History.{request}
use Rattle.host_driver.specs.Pending.{Commands, outstanding_at}
use Rattle.host_driver.specs.State.{HostState, after_event, opened, owed}
use Rattle.host_driver.specs.Told.{Told, answers, closes, connects, quiet, refuses, sends, tells, terminates}
use Rattle.pdu_codec.specs.Initialize.{ic_req}
use Rattle.host_driver.specs.declared.answer.HostStep.{HostStep}
use Rattle.host_driver.specs.declared.answer.HostStep.TheVariants as step
use Rattle.host_driver.specs.declared.fault.HostFault.{HostFault}
use Rattle.host_driver.specs.declared.fault.HostFault.TheVariants as fault

pub record SessionState : Type 0 where
  pub params : HostParams
  pub state : HostState
  pub output : List ℕ

-- what a queue is opened with; the caller keeps to it
abbrev pub AreParams : HostParams → Type 0
AreParams p = (1 ≤ p.sqsize) × (p.sqsize ≤ 63) × (p.in_capsule ≤ 8192)

-- limits that were accepted
abbrev pub HasLimits : Phase → Type 0
HasLimits (Initialized limits) = AreLimits limits
HasLimits (Connected limits) = AreLimits limits
HasLimits Opened = Unit {0}
HasLimits Failed = Unit {0}

-- a queue fails for good, by a fault, a termination or a refused Connect: nothing follows
abbrev pub is_failed : Phase → Bool
is_failed Failed = true
is_failed _ = false

-- nothing came, and the ICReq is to be sent
abbrev pub IsFirst : HostParams → SessionState → Type 0
IsFirst params s = s ≡ record { params = params; state = opened params; output = ic_req request }

-- where an event leads
abbrev pub after : Event → SessionState → SessionState
after e s = record { params = s.params; state = after_event s.params s.state e; output = s.output ++ sends s.params s.state e }

-- ---- submit

-- the ICResp sets the limits, but no command may use them before the Connect succeeded
abbrev pub limits_in : Phase → Result TransportLimits HostFault
limits_in (Connected limits) = Ok limits
limits_in (Initialized limits) = Err fault.NotConnected
limits_in Opened = Err fault.NotConnected
limits_in Failed = Err fault.Failed

abbrev pub full_by : Option ℕ → Option HostFault
full_by None = Some fault.QueueFull
full_by (Some cid) = None

-- a connected queue takes a command of at most 131,072 bytes of data while it has a free identifier
abbrev pub connected_fault : Commands → Command → Option HostFault
connected_fault commands c =
    if nat_lt 131072 (length c.out) || nat_lt 131072 c.into then Some fault.TooLarge else
    full_by (position is_none commands)

abbrev pub submit_fault_by : Result TransportLimits HostFault → Commands → Command → Option HostFault
submit_fault_by (Err fault) commands c = Some fault
submit_fault_by (Ok limits) commands c = connected_fault commands c

-- the first reason to refuse a command, memory aside
abbrev pub submit_fault : HostState → Command → Option HostFault
submit_fault s c = submit_fault_by (limits_in s.phase) s.commands c

-- the command has the least identifier that was free, and its capsule is behind the output
pub record Submits (cid : ℕ) (c : Command) (old new : SessionState) : Type 0 where
  pub least : position is_none old.state.commands ≡ Some cid
  pub moved : new ≡ after (submitted cid c) old

-- ---- step

-- what an answer of a step tells, if an event can tell it
abbrev pub told_of : Result (Option HostStep) HostFault → Option Told
told_of (Ok None) = Some quiet
told_of (Ok (Some step.Idle)) = None
told_of (Ok (Some (step.Connected cntlid))) = Some (connects cntlid)
told_of (Ok (Some (step.Done a))) = Some (answers (record { cid = a.cid; status = a.status; data_result = a.result; payload = a.payload.items }))
told_of (Err fault.Failed) = None
told_of (Err (fault.Fault fes fei)) = Some (terminates fes fei)
told_of (Err (fault.Term fes fei)) = Some (closes fes fei)
told_of (Err (fault.Refused status)) = Some (refuses status)
told_of (Err fault.NotConnected) = None
told_of (Err fault.TooLarge) = None
told_of (Err fault.QueueFull) = None
told_of (Err fault.Memory) = None

-- the front is taken, and what that tells is answered
pub record Tells (front : Front) (old : SessionState) (answer : Result (Option HostStep) HostFault) (new : SessionState) : Type 0 where
  pub moved : new ≡ after (taken front) old
  pub told : told_of answer ≡ Some (tells old.state (taken front))

-- what doing a decision may rest on
abbrev pub IsSafe : HostState → Front → HostDecision → Type 0
IsSafe s front (decision.Initialize limits) = AreLimits limits
IsSafe s front (decision.Receive cid) = Fits (outstanding_at s.commands (Some cid)) (length (data_at front))
IsSafe s front (decision.ReceiveLast cid) = Fits (outstanding_at s.commands (Some cid)) (length (data_at front))
IsSafe s front (decision.Send request) = IsNext (outstanding_at s.commands (Some request.cccid)) request
IsSafe s front _ = Unit {0}

-- the room for what a decision sends
abbrev pub decision_room : HostDecision → ℕ
decision_room (decision.Initialize limits) = 1224
decision_room (decision.Send request) = requested_room request.r2tl
decision_room (decision.Terminate t) = 152
decision_room _ = 0

-- what is owed to a front is sent, which wants memory
abbrev pub NeedsRoom : HostState → Front → Type 0
NeedsRoom s front = 1 ≤ decision_room (owed s front)
