-- A host's conversation with a controller, and what is done in it, one thing at a time.
use Rattle.std.specs.Prelude.{◌≡◌, ◌≢◌, ℕ, ◌-◌, min, Bool, ◌||◌, ◌==◌, List, [], ◌++◌, Result, drop, length, take}
use Rattle.pdu_cut.specs.Front.{Front}
use Rattle.host_driver.specs.declared.answer.HostStep.{HostStep}
use Rattle.host_driver.specs.declared.fault.HostFault.{HostFault}
use Rattle.host_driver.specs.Queue.{AgreesAfterAll, QueueState, ReceiveAgrees, StepsBy, TakenAgrees, run}
use Rattle.host_link.specs.Link.{Fails, HandsOut, LinkState, Takes}

-- The link; the queue; what came and the queue had no room for; the turns that are left; the identifier of the
-- controller; and whether all that was to be sent was taken, at some time since the last command was submitted.
pub record Conversation : Type 0 where
  pub link : LinkState
  pub queue : QueueState
  pub held : List ℕ
  pub turns : ℕ
  pub cntlid : ℕ
  pub is_sent : Bool

-- the link failed, and nothing else happened
pub record FailsOnly (old new : Conversation) : Type 0 where
  pub link : Fails old.link new.link
  pub stays : new ≡ record old { link = new.link }

-- ---- to the link

-- the link took these bytes, or failed
pub data Sending : Type 0 where
  sent : List ℕ → Sending
  unsent : Sending

-- the queue, with this left to be sent
abbrev pub with_output : List ℕ → QueueState → QueueState
with_output output q = record q { session = record q.session { output = output } }

-- the link took these bytes, the first of what was to be sent
pub record SendsBytes (bytes : List ℕ) (old new : Conversation) : Type 0 where
  pub first : old.queue.session.output ≡ bytes ++ new.queue.session.output
  pub link : Takes bytes old.link new.link
  pub agrees : TakenAgrees bytes old.queue new.queue
  pub stays : new ≡ record old {
    link = new.link;
    queue = with_output new.queue.session.output old.queue;
    is_sent = old.is_sent || (length new.queue.session.output == 0);
  }

abbrev pub Sends : Sending → Conversation → Conversation → Type 0
Sends (sent bytes) old new = SendsBytes bytes old new
Sends unsent old new = FailsOnly old new

-- ---- from the link

-- the link handed these bytes out, or failed; or it was not asked
pub data Receiving : Type 0 where
  came : List ℕ → Receiving
  failed : Receiving
  not_asked : Receiving

-- it is asked where nothing is held of what came before
abbrev pub FillsWith : Receiving → LinkState → LinkState → List ℕ → List ℕ → Type 0
FillsWith (came bytes) old new before after = (before ≡ []) × HandsOut bytes old new × (after ≡ bytes)
FillsWith failed old new before after = (before ≡ []) × Fails old new × (after ≡ before)
FillsWith not_asked old new before after = (before ≢ []) × (new ≡ old) × (after ≡ before)

pub record Receives (r : Receiving) (old new : Conversation) : Type 0 where
  pub fills : FillsWith r old.link new.link old.held new.held
  pub stays : new ≡ record old { link = new.link; held = new.held }

-- ---- to the queue

-- as many of these bytes as the queue has room for
abbrev pub room_for : QueueState → List ℕ → ℕ
room_for q bytes = min (135168 - length q.held) (length bytes)

-- the queue received the first of these bytes, as many as it has room for, and these are left
pub record HandsOn (before after : List ℕ) (old new : QueueState) : Type 0 where
  pub left : after ≡ drop (room_for old before) before
  pub queue : new ≡ record old { held = old.held ++ take (room_for old before) before }
  pub agrees : ReceiveAgrees (take (room_for old before) before) old new

pub record Hands (old new : Conversation) : Type 0 where
  pub hands : HandsOn old.held new.held old.queue new.queue
  pub stays : new ≡ record old { queue = new.queue; held = new.held }

-- ---- steps of the queue

-- the PDUs that it took, the newest first, and what it answered
pub record Step : Type 0 where
  pub fronts : List Front
  pub answer : Result HostStep HostFault

-- the queue took a step
pub record StepsQueue (s : Step) (old new : QueueState) : Type 0 where
  pub steps : StepsBy old s.answer new
  pub moved : new ≡ run s.fronts old
  pub agrees : AgreesAfterAll s.fronts old new

pub record Steps (s : Step) (old new : Conversation) : Type 0 where
  pub queue : StepsQueue s old.queue new.queue
  pub stays : new ≡ record old { queue = new.queue }
