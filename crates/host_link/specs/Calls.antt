-- What the parts of a turn answer.
use Rattle.std.specs.Prelude.{◌≡◌, List, Option, Result}
use Rattle.host_driver.specs.declared.answer.HostStep.{HostStep}
use Rattle.host_driver.specs.declared.fault.HostFault.{HostFault}
use Rattle.host_driver.specs.Queue.{StepsBy}
use Rattle.host_link.specs.declared.fault.SessionFault.{SessionFault}
use Rattle.host_link.specs.Conversation.{Conversation, Hands, Receives, Receiving, Sending, Sends, Step}
use Rattle.host_link.specs.Turn.{IsOut, Moves, StepsAll, TakesTurn, Turn, outcome, receiving_result, sending_result, told_in}

pub record SendsBy (result : Result (Unit {0}) SessionFault) (old new : Conversation) : Type 0 where
  pub sending : Sending
  pub sends : Sends sending old new
  pub is : result ≡ sending_result sending

-- what came goes on to the queue
pub record ReceivesBy (result : Result (Unit {0}) SessionFault) (old new : Conversation) : Type 0 where
  pub receiving : Receiving
  pub stands : Conversation
  pub receives : Receives receiving old stands
  pub hands : Hands stands new
  pub is : result ≡ receiving_result receiving

pub record StepsOnce (answer : Result HostStep HostFault) (old new : Conversation) : Type 0 where
  pub steps : StepsBy old.queue answer new.queue
  pub stays : new ≡ record old { queue = new.queue }

pub record StepsOut (result : Result (Option HostStep) HostFault) (old new : Conversation) : Type 0 where
  pub steps : List Step
  pub all : StepsAll steps old new
  pub is_out : IsOut steps
  pub is : result ≡ told_in steps

pub record MovesBy (result : Result (Option HostStep) SessionFault) (old new : Conversation) : Type 0 where
  pub turn : Turn
  pub moves : Moves turn old new
  pub is : result ≡ outcome turn

pub record TurnsBy (result : Result (Option HostStep) SessionFault) (old new : Conversation) : Type 0 where
  pub turn : Turn
  pub takes : TakesTurn turn old new
  pub is : result ≡ outcome turn
