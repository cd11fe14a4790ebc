-- A turn of a conversation: a send, a receive, and steps of the queue until it is idle.
use Rattle.std.specs.Prelude.{◌≡◌, ◌≤◌, ◌-◌, Bool, true, false, List, [], ◌∷◌, Option, Some, None, Result, Ok, Err, length}
use Rattle.host_driver.specs.declared.answer.HostStep.{HostStep}
use Rattle.host_driver.specs.declared.answer.HostStep.TheVariants as step
use Rattle.host_driver.specs.declared.fault.HostFault.{HostFault}
use Rattle.host_link.specs.declared.fault.SessionFault.{SessionFault}
use Rattle.host_link.specs.declared.fault.SessionFault.TheVariants.{Io}
use Rattle.host_link.specs.Fault.{of_queue}
use Rattle.host_link.specs.Conversation.{Conversation, Hands, Receives, Receiving, Sending, Sends, Step, Steps}
use Rattle.host_link.specs.Conversation.{came, failed, not_asked, sent, unsent}

-- ---- all steps of a turn

-- these steps, the newest first
abbrev pub StepsAll : List Step → Conversation → Conversation → Type 0
StepsAll [] old new = new ≡ old
StepsAll (s ∷ ss) old new = (mid : Conversation) × StepsAll ss old mid × Steps s mid new

-- a step tells something
abbrev pub is_telling : Result HostStep HostFault → Bool
is_telling (Ok step.Idle) = false
is_telling (Ok (step.Connected cntlid)) = true
is_telling (Ok (step.Done a)) = true
is_telling (Err fault) = false

abbrev pub AreTelling : List Step → Type 0
AreTelling [] = Unit {0}
AreTelling (s ∷ ss) = (is_telling s.answer ≡ true) × AreTelling ss

-- each step but the last one tells something; that one does not, or is the 64th
abbrev pub IsOut : List Step → Type 0
IsOut [] = ⊥
IsOut (s ∷ ss) = AreTelling ss × (length ss ≤ 63) × (is_telling s.answer ≡ true → length ss ≡ 63)

-- what steps told last, where each of them tells something
abbrev pub told_by : Result HostStep HostFault → Option HostStep
told_by (Ok s) = Some s
told_by (Err fault) = None

abbrev pub told_last : List Step → Option HostStep
told_last [] = None
told_last (s ∷ ss) = told_by s.answer

-- what comes of the last step, where the ones before it told this
abbrev pub told_behind : Result HostStep HostFault → Option HostStep → Result (Option HostStep) HostFault
told_behind (Ok step.Idle) before = Ok before
told_behind (Ok (step.Connected cntlid)) before = Ok (Some (step.Connected cntlid))
told_behind (Ok (step.Done a)) before = Ok (Some (step.Done a))
told_behind (Err fault) before = Err fault

abbrev pub told_in : List Step → Result (Option HostStep) HostFault
told_in [] = Ok None
told_in (s ∷ ss) = told_behind s.answer (told_last ss)

-- ---- a turn

-- What was done in it, from a send to the steps, of which the newest is the first; and, where the queue met a fault,
-- the send of what it has to say of that.
pub record Turn : Type 0 where
  pub sending : Sending
  pub receiving : Receiving
  pub steps : List Step
  pub last : Option Sending

abbrev pub SendsLast : Result (Option HostStep) HostFault → Option Sending → Conversation → Conversation → Type 0
SendsLast (Ok told) None old new = new ≡ old
SendsLast (Ok told) (Some s) old new = ⊥
SendsLast (Err fault) None old new = ⊥
SendsLast (Err fault) (Some s) old new = Sends s old new

-- each part begins where the one before it ends
pub record Moves (t : Turn) (old new : Conversation) : Type 0 where
  pub then_sent : Conversation
  pub then_received : Conversation
  pub then_handed : Conversation
  pub then_stepped : Conversation
  pub sends : Sends t.sending old then_sent
  pub receives : Receives t.receiving then_sent then_received
  pub hands : Hands then_received then_handed
  pub steps : StepsAll t.steps then_handed then_stepped
  pub is_out : IsOut t.steps
  pub ends : SendsLast (told_in t.steps) t.last then_stepped new

-- one of the turns that are left
pub record TakesTurn (t : Turn) (old new : Conversation) : Type 0 where
  pub is_left : 1 ≤ old.turns
  pub moves : Moves t (record old { turns = old.turns - 1 }) new

-- ---- what comes of a turn

abbrev pub sending_result : Sending → Result (Unit {0}) SessionFault
sending_result (sent bytes) = Ok tt
sending_result unsent = Err Io

abbrev pub receiving_result : Receiving → Result (Unit {0}) SessionFault
receiving_result (came bytes) = Ok tt
receiving_result failed = Err Io
receiving_result not_asked = Ok tt

-- where the queue told nothing, the first fault of the link
abbrev pub of_link : Result (Unit {0}) SessionFault → Result (Unit {0}) SessionFault → Result (Option HostStep) SessionFault
of_link (Err fault) received = Err fault
of_link (Ok done) (Err fault) = Err fault
of_link (Ok done) (Ok more) = Ok None

abbrev pub outcome_by : Result (Option HostStep) HostFault → Result (Unit {0}) SessionFault → Result (Unit {0}) SessionFault
    → Result (Option HostStep) SessionFault
outcome_by (Ok None) sends receives = of_link sends receives
outcome_by (Ok (Some s)) sends receives = Ok (Some s)
outcome_by (Err fault) sends receives = Err (of_queue fault)

-- what the queue told last, or its fault, counts before a fault of the link
abbrev pub outcome : Turn → Result (Option HostStep) SessionFault
outcome t = outcome_by (told_in t.steps) (sending_result t.sending) (receiving_result t.receiving)
