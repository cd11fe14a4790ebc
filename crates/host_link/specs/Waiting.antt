-- Turns that are waited.
use Rattle.std.specs.Prelude.{◌≡◌, ◌⊎◌, ◌==◌, ◌&&◌, not, Bool, true, false, List, [], ◌∷◌, Option, Some, None, Result, Ok, Err, length}
use Rattle.host_driver.specs.declared.answer.HostStep.{HostStep}
use Rattle.host_link.specs.declared.fault.SessionFault.{SessionFault}
use Rattle.host_link.specs.declared.fault.SessionFault.TheVariants.{Turns}
use Rattle.host_link.specs.Conversation.{Conversation}
use Rattle.host_link.specs.Turn.{TakesTurn, Turn, outcome}

-- a turn that tells nothing and meets no fault, behind which the conversation goes on
pub record IsQuiet (stops : Conversation → Bool) (t : Turn) (old new : Conversation) : Type 0 where
  pub turn : TakesTurn t old new
  pub nothing : outcome t ≡ Ok None
  pub goes_on : stops new ≡ false

-- these turns, the newest first
abbrev pub AreQuiet : (Conversation → Bool) → List Turn → Conversation → Conversation → Type 0
AreQuiet stops [] old new = new ≡ old
AreQuiet stops (t ∷ ts) old new = (mid : Conversation) × AreQuiet stops ts old mid × IsQuiet stops t mid new

-- what a turn brings that ends the wait
abbrev pub as_outcome : Result HostStep SessionFault → Result (Option HostStep) SessionFault
as_outcome (Ok s) = Ok (Some s)
as_outcome (Err fault) = Err fault

pub record EndsByTurn (result : Result HostStep SessionFault) (old new : Conversation) : Type 0 where
  pub turn : Turn
  pub takes : TakesTurn turn old new
  pub told : outcome turn ≡ as_outcome result

-- no turn is left
pub record IsOutOfTurns (old new : Conversation) : Type 0 where
  pub none_left : old.turns ≡ 0
  pub same : new ≡ old

-- ---- until something is told

abbrev pub never : Conversation → Bool
never c = false

abbrev pub WaitEnds : Result HostStep SessionFault → Conversation → Conversation → Type 0
WaitEnds result old new = ((result ≡ Err Turns) × IsOutOfTurns old new) ⊎ EndsByTurn result old new

-- quiet turns, and then one that tells something or meets a fault, or none, where none is left
pub record Waits (result : Result HostStep SessionFault) (old new : Conversation) : Type 0 where
  pub turns : List Turn
  pub stands : Conversation
  pub quiet : AreQuiet never turns old stands
  pub ends : WaitEnds result stands new

-- ---- until data are asked for

-- all of what was to be sent was taken, and more is to be sent
abbrev pub is_asked : Conversation → Bool
is_asked c = c.is_sent && not (length c.queue.session.output == 0)

-- a turn behind which data are asked for
pub record EndsAsked (old new : Conversation) : Type 0 where
  pub turn : Turn
  pub takes : TakesTurn turn old new
  pub nothing : outcome turn ≡ Ok None
  pub asked : is_asked new ≡ true
