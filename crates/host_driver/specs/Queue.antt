-- A queue, and what its calls make of it.
use Rattle.std.specs.Prelude.{◌≡◌, ◌≢◌, ◌⊎◌, ℕ, ◌≤◌, ◌<◌, List, [], ◌∷◌, ◌++◌, length, drop, Option, Some, Result, Ok, Err, Bool, true, false}
use Rattle.pdu_cut.specs.declared.side.Side.TheVariants.{Host}
use Rattle.pdu_cut.specs.Front.{Front, front, incomplete}
use Rattle.host_driver.specs.declared.params.HostParams.{HostParams}
use Rattle.host_driver.specs.Command.{Command}
use Rattle.host_driver.specs.Event.{Event, History, consumed_at, submitted, taken}
use Rattle.host_driver.specs.History.{sent_after, taken_after}
use Rattle.host_driver.specs.State.{state_after}
use Rattle.host_driver.specs.Told.{Told, quiet, tells}
use Rattle.host_driver.specs.declared.answer.HostStep.{HostStep}
use Rattle.host_driver.specs.declared.answer.HostStep.TheVariants as step
use Rattle.host_driver.specs.declared.fault.HostFault.{HostFault}
use Rattle.host_driver.specs.declared.fault.HostFault.TheVariants as fault
use Rattle.host_driver.specs.declared.queue.Taken.{Taken}
use Rattle.host_driver.specs.declared.queue.Taken.TheVariants as took
use Rattle.host_driver.specs.Session.{IsFirst, NeedsRoom, SessionState, Submits, after, is_failed, told_of}

pub record QueueState : Type 0 where
  pub session : SessionState
  pub held : List ℕ

-- ---- the relation of a queue to what happened

-- After these events, and with these bytes received and given so far, the queue stands where the history
-- leads; what it gave and its output are what was sent, and what came are the PDUs that were taken and
-- what it holds.
pub record Agrees (given : HostParams) (h : History) (received gave : List ℕ) (q : QueueState) : Type 0 where
  pub params : q.session.params ≡ given
  pub state : q.session.state ≡ state_after given h
  pub sent : gave ++ q.session.output ≡ sent_after given h
  pub came : received ≡ taken_after h ++ q.held

-- nothing came, and the ICReq is to be sent
abbrev pub IsOpened : HostParams → QueueState → Type 0
IsOpened params q = IsFirst params q.session × (q.held ≡ []) × Agrees params [] [] [] q

-- ---- submit, receive, taken

-- the queue goes on to agree with the history, longer by this event
abbrev pub AgreesAfter : Event → QueueState → QueueState → Type 0
AgreesAfter e old new = (params : HostParams) (h : History) (received gave : List ℕ)
    → Agrees params h received gave old → Agrees params (e ∷ h) received gave new

pub record SubmitsOn (cid : ℕ) (c : Command) (old new : QueueState) : Type 0 where
  pub submits : Submits cid c old.session new.session
  pub held : new.held ≡ old.held
  pub agrees : AgreesAfter (submitted cid c) old new

abbrev pub ReceiveAgrees : List ℕ → QueueState → QueueState → Type 0
ReceiveAgrees bytes old new = (params : HostParams) (h : History) (received gave : List ℕ)
    → Agrees params h received gave old → Agrees params h (received ++ bytes) gave new

abbrev pub TakenAgrees : List ℕ → QueueState → QueueState → Type 0
TakenAgrees bytes old new = (params : HostParams) (h : History) (received gave : List ℕ)
    → Agrees params h received gave old → Agrees params h received (gave ++ bytes) new

-- ---- step

-- what stands at the front of what came
abbrev pub at_front : QueueState → Front
at_front q = front Host q.held

-- that is taken
abbrev pub moved : Front → QueueState → QueueState
moved f q = record { session = after (taken f) q.session; held = drop (length (consumed_at f)) q.held }

abbrev pub tells_at : QueueState → Front → Told
tells_at q f = tells q.session.state (taken f)

-- these fronts are taken in turn, the newest first
unfoldable pub run : List Front → QueueState → QueueState
run [] q = q
run (f ∷ fs) q = moved f (run fs q)

-- each of them stands at the front when it is taken, and none tells anything
unfoldable pub IsQuiet : List Front → QueueState → Type 0
IsQuiet [] q = Unit {0}
IsQuiet (f ∷ fs) q = IsQuiet fs q × (at_front (run fs q) ≡ f) × (tells_at (run fs q) f ≡ quiet)

-- the history once these were taken
unfoldable pub with_taken : List Front → History → History
with_taken [] h = h
with_taken (f ∷ fs) h = taken f ∷ with_taken fs h

abbrev pub AgreesAfterAll : List Front → QueueState → QueueState → Type 0
AgreesAfterAll fs old new = (params : HostParams) (h : History) (received gave : List ℕ)
    → Agrees params h received gave old → Agrees params (with_taken fs h) received gave new

-- the front wants memory for what it sends
abbrev pub IsHungry : QueueState → Type 0
IsHungry q = NeedsRoom q.session.state (at_front q)

-- some were taken, none of which told anything; no whole PDU is left, or memory was wanted after the first
pub record Idles (old new : QueueState) : Type 0 where
  pub fronts : List Front
  pub are_quiet : IsQuiet fronts old
  pub moved : new ≡ run fronts old
  pub stands : (at_front new ≡ incomplete) ⊎ ((1 ≤ length fronts) × IsHungry new)
  pub agrees : AgreesAfterAll fronts old new

-- what a step answers, if a front can tell it
abbrev pub step_told : Result HostStep HostFault → Option Told
step_told (Ok s) = told_of (Ok (Some s))
step_told (Err f) = told_of (Err f)

-- one told something, and those before it nothing
pub record Answers (old : QueueState) (answer : Result HostStep HostFault) (new : QueueState) : Type 0 where
  pub fronts : List Front
  pub are_quiet : IsQuiet fronts old
  pub last : Front
  pub at : at_front (run fronts old) ≡ last
  pub is_there : last ≢ incomplete
  pub told : step_told answer ≡ Some (tells_at (run fronts old) last)
  pub moved : new ≡ moved last (run fronts old)
  pub agrees : AgreesAfterAll (last ∷ fronts) old new

-- memory is wanted at once, and nothing changes
pub record Wants (old new : QueueState) : Type 0 where
  pub is_there : at_front old ≢ incomplete
  pub is_hungry : IsHungry old
  pub same : new ≡ old

abbrev pub StepsIn : QueueState → Result HostStep HostFault → QueueState → Type 0
StepsIn old (Ok step.Idle) new = Idles old new
StepsIn old (Ok (step.Connected cntlid)) new = Answers old (Ok (step.Connected cntlid)) new
StepsIn old (Ok (step.Done a)) new = Answers old (Ok (step.Done a)) new
StepsIn old (Err fault.Memory) new = Wants old new
StepsIn old (Err f) new = Answers old (Err f) new

abbrev pub StepsWhere : Bool → QueueState → Result HostStep HostFault → QueueState → Type 0
StepsWhere true old answer new = (answer ≡ Err fault.Failed) × (new ≡ old)
StepsWhere false old answer new = StepsIn old answer new

-- ---- the loop of a step

-- whether something was taken before
abbrev pub Began : Bool → ℕ → Type 0
Began true n = n ≡ 0
Began false n = 1 ≤ n

-- some were taken so far, none of which told anything
pub record Looping (old new : QueueState) (is_first : Bool) : Type 0 where
  pub fronts : List Front
  pub are_quiet : IsQuiet fronts old
  pub moved : new ≡ run fronts old
  pub began : Began is_first (length fronts)
  pub agrees : AgreesAfterAll fronts old new

-- ---- step

-- a queue that failed takes nothing
abbrev pub StepsBy : QueueState → Result HostStep HostFault → QueueState → Type 0
StepsBy old answer new = StepsWhere (is_failed old.session.state.phase) old answer new

-- ---- one front

-- the front is taken, and what that tells is answered; one that tells nothing is a whole PDU
pub record TakesOne (old : QueueState) (answer : Result (Option HostStep) HostFault) (new : QueueState) : Type 0 where
  pub is_there : at_front old ≢ incomplete
  pub told : told_of answer ≡ Some (tells_at old (at_front old))
  pub moved : new ≡ moved (at_front old) old
  pub begins : old.held ≡ consumed_at (at_front old) ++ new.held
  pub shorter : tells_at old (at_front old) ≡ quiet → length new.held < length old.held

abbrev pub TakesFront : QueueState → Taken → QueueState → Type 0
TakesFront old took.Nothing new = (new ≡ old) × (at_front old ≡ incomplete)
TakesFront old took.Starved new = Wants old new
TakesFront old (took.Told answer) new = TakesOne old answer new
