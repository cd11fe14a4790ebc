-- What the calls of a session do.
use Rattle.std.specs.Prelude.{◌≡◌, ◌≢◌, ◌⊎◌, ◌==◌, ◌&&◌, ℕ, ◌%◌, false, List, [], ◌∷◌, Option, Some, None, Result, Ok, Err, if◌then◌else◌}
use Rattle.host_driver.specs.declared.params.HostParams.{HostParams}
use Rattle.host_driver.specs.Command.{Command}
use Rattle.host_driver.specs.declared.answer.Answer.{Answer}
use Rattle.host_driver.specs.declared.answer.HostStep.{HostStep}
use Rattle.host_driver.specs.declared.answer.HostStep.TheVariants as step
use Rattle.host_driver.specs.declared.fault.HostFault.{HostFault}
use Rattle.host_driver.specs.Queue.{IsOpened, SubmitsOn}
use Rattle.host_driver.specs.Session.{submit_fault}
use Rattle.host_link.specs.declared.fault.SessionFault.{SessionFault}
use Rattle.host_link.specs.declared.fault.SessionFault.TheVariants as fault
use Rattle.host_link.specs.declared.commands.ControllerProperty.TheVariants.{ControllerConfiguration, ControllerStatus}
use Rattle.host_link.specs.Commands.{property_get, property_set}
use Rattle.host_link.specs.Conversation.{Conversation}
use Rattle.host_link.specs.Fault.{of_queue}
use Rattle.host_link.specs.Link.{LinkState}
use Rattle.host_link.specs.Turn.{Turn}
use Rattle.host_link.specs.Waiting.{AreQuiet, EndsAsked, EndsByTurn, IsOutOfTurns, Waits, is_asked}

-- ---- answers

-- status code type 0 and status code 0 (Base 2.0, section 3.3.3.2.1)
pub record IsSuccess (a : Answer) : Type 0 where
  pub sct : a.status.sct ≡ 0
  pub sc : a.status.sc ≡ 0

-- an answer of another status is refused with it, and nothing else answers a command
abbrev pub answer_of : HostStep → Result Answer SessionFault
answer_of (step.Done a) = if (a.status.sct == 0) && (a.status.sc == 0) then Ok a else Err (fault.Status a.status)
answer_of step.Idle = Err fault.BadPage
answer_of (step.Connected cntlid) = Err fault.BadPage

abbrev pub answer_by : Result HostStep SessionFault → Result Answer SessionFault
answer_by (Ok s) = answer_of s
answer_by (Err f) = Err f

-- what was waited for is answered
pub record Answers (result : Result Answer SessionFault) (old new : Conversation) : Type 0 where
  pub told : Result HostStep SessionFault
  pub waits : Waits told old new
  pub is : result ≡ answer_by told

-- ---- submit

-- the queue took this command, and its capsule is to be sent
pub record SubmitsNext (c : Command) (old new : Conversation) : Type 0 where
  pub cid : ℕ
  pub queue : SubmitsOn cid c old.queue new.queue
  pub stays : new ≡ record old { queue = new.queue; is_sent = false }

-- why the queue does not take it: for a reason of its own, or since memory ran out
abbrev pub IsRefusedBy : Option HostFault → SessionFault → Type 0
IsRefusedBy None f = f ≡ fault.Memory
IsRefusedBy (Some why) f = f ≡ of_queue why

abbrev pub SubmitsBy : Command → Result (Unit {0}) SessionFault → Conversation → Conversation → Type 0
SubmitsBy c (Ok done) old new = (submit_fault old.queue.session.state c ≡ None) × SubmitsNext c old new
SubmitsBy c (Err f) old new = IsRefusedBy (submit_fault old.queue.session.state c) f × (new ≡ old)

-- ---- execute

-- it is submitted, and what answers it is waited for; or it is refused
abbrev pub AnswersBehind : Result (Unit {0}) SessionFault → Result Answer SessionFault → Conversation → Conversation → Type 0
AnswersBehind (Ok done) result old new = Answers result old new
AnswersBehind (Err f) result old new = (result ≡ Err f) × (new ≡ old)

pub record Executes (c : Command) (result : Result Answer SessionFault) (old new : Conversation) : Type 0 where
  pub submitted : Result (Unit {0}) SessionFault
  pub stands : Conversation
  pub submits : SubmitsBy c submitted old stands
  pub answers : AnswersBehind submitted result stands new

-- ---- request

abbrev pub request_by : Result Answer SessionFault → Result (Option Answer) SessionFault
request_by (Ok a) = Ok (Some a)
request_by (Err f) = Err f

-- the answer comes, or a fault, before data are asked for
pub record EndsAnswered (result : Result (Option Answer) SessionFault) (old new : Conversation) : Type 0 where
  pub told : Result HostStep SessionFault
  pub ends : EndsByTurn told old new
  pub is : result ≡ request_by (answer_by told)

abbrev pub RequestEnds : Result (Option Answer) SessionFault → Conversation → Conversation → Type 0
RequestEnds result old new =
    ((result ≡ Err fault.Turns) × IsOutOfTurns old new) ⊎ (((result ≡ Ok None) × EndsAsked old new) ⊎ EndsAnswered result old new)

-- turns behind which no data are asked for, and then one that ends the wait, or none, where none is left
pub record Requests (result : Result (Option Answer) SessionFault) (old new : Conversation) : Type 0 where
  pub turns : List Turn
  pub stands : Conversation
  pub quiet : AreQuiet is_asked turns old stands
  pub ends : RequestEnds result stands new

-- ---- enable

-- CC of a controller that is enabled: EN 1, IOSQES 6 and IOCQES 4 (Base 2.0, section 3.1.3.5)
abbrev pub enabling : Command
enabling = property_set ControllerConfiguration 4587521

abbrev pub asking_status : Command
asking_status = property_get ControllerStatus

-- RDY of the property CSTS (Base 2.0, section 3.1.3.6)
abbrev pub IsReady : Answer → Type 0
IsReady a = a.result % 2 ≡ 1

-- these answers, the newest first, say that the controller is not ready
abbrev pub AreUnready : List Answer → Conversation → Conversation → Type 0
AreUnready [] old new = new ≡ old
AreUnready (a ∷ answers) old new =
    (mid : Conversation) × AreUnready answers old mid × Executes asking_status (Ok a) mid new × (a.result % 2 ≢ 1)

abbrev pub ReadyBy : Result Answer SessionFault → Result (Unit {0}) SessionFault → Type 0
ReadyBy (Ok a) result = IsReady a × (result ≡ Ok tt)
ReadyBy (Err f) result = result ≡ Err f

-- the status is asked for until it is that of a ready controller
pub record AwaitsReady (result : Result (Unit {0}) SessionFault) (old new : Conversation) : Type 0 where
  pub answers : List Answer
  pub stands : Conversation
  pub unready : AreUnready answers old stands
  pub answer : Result Answer SessionFault
  pub executes : Executes asking_status answer stands new
  pub is : ReadyBy answer result

abbrev pub EnablesBehind : Result Answer SessionFault → Result (Unit {0}) SessionFault → Conversation → Conversation → Type 0
EnablesBehind (Ok a) result old new = AwaitsReady result old new
EnablesBehind (Err f) result old new = (result ≡ Err f) × (new ≡ old)

pub record Enables (result : Result (Unit {0}) SessionFault) (old new : Conversation) : Type 0 where
  pub answer : Result Answer SessionFault
  pub stands : Conversation
  pub executes : Executes enabling answer old stands
  pub ends : EnablesBehind answer result stands new

-- ---- connect

-- a queue that has its ICReq to send, over this link
pub record IsBegun (params : HostParams) (link : LinkState) (turns : ℕ) (c : Conversation) : Type 0 where
  pub queue : IsOpened params c.queue
  pub stays : c ≡ record { link = link; queue = c.queue; held = []; turns = turns; cntlid = 0; is_sent = false }

-- the queue is connected, to the controller of this identifier
pub record ConnectsTo (params : HostParams) (link : LinkState) (turns : ℕ) (new : Conversation) : Type 0 where
  pub begun : Conversation
  pub stands : Conversation
  pub begins : IsBegun params link turns begun
  pub waits : Waits (Ok (step.Connected new.cntlid)) begun stands
  pub stays : new ≡ record stands { cntlid = new.cntlid }

-- what is told first is a fault, or that something else than the Connect succeeded
abbrev pub IsFaultOf : Result HostStep SessionFault → SessionFault → Type 0
IsFaultOf (Err why) f = f ≡ why
IsFaultOf (Ok step.Idle) f = f ≡ fault.BadPage
IsFaultOf (Ok (step.Connected cntlid)) f = ⊥
IsFaultOf (Ok (step.Done a)) f = f ≡ fault.BadPage

pub record FailsToConnect (params : HostParams) (link : LinkState) (turns : ℕ) (f : SessionFault) : Type 0 where
  pub begun : Conversation
  pub ended : Conversation
  pub begins : IsBegun params link turns begun
  pub told : Result HostStep SessionFault
  pub waits : Waits told begun ended
  pub is : IsFaultOf told f

-- where memory runs out there is no queue
abbrev pub Connects : HostParams → LinkState → ℕ → Result Conversation SessionFault → Type 0
Connects params link turns (Ok new) = ConnectsTo params link turns new
Connects params link turns (Err f) = (f ≡ fault.Memory) ⊎ FailsToConnect params link turns f
