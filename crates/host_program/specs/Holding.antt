-- What the command `write` does where it holds its data back.
use Rattle.std.specs.Prelude.{◌≡◌, ◌⊎◌, ℕ, Bool, true, false, List, Option, Some, None, Result, Ok, Err}
use Rattle.std.specs.Io.KnownBytes.{Keeps}
use Rattle.host_driver.specs.declared.answer.Answer.{Answer}
use Rattle.host_link.specs.declared.fault.SessionFault.{SessionFault}
use Rattle.host_link.specs.Conversation.{Conversation}
use Rattle.host_link.specs.Link.{LinkState}
use Rattle.host_link.specs.Session.{Answers, Connects, Requests, SubmitsBy}
use Rattle.host_program.specs.declared.peers.Peers.{Peers}
use Rattle.host_program.specs.declared.writing.Fill.{Fill}
use Rattle.host_program.specs.Asking.{AsksBlockLen, OpensAdmin}
use Rattle.host_program.specs.AwaitedLine.{PassesLine}
use Rattle.host_program.specs.Blocks.{IsStarved, filling}
use Rattle.host_program.specs.Peers.{io_queue}
use Rattle.host_program.specs.Printed.{Behind, IsOfWriting, Prints, held_line, ok_line}

-- ---- what the session answers

abbrev pub none_of : Result (Option Answer) SessionFault → Result Bool SessionFault
none_of (Ok None) = Ok true
none_of (Ok (Some a)) = Ok false
none_of (Err fault) = Err fault

pub record IsRequested (result : Result Bool SessionFault) (old new : Conversation) : Type 0 where
  pub asked : Result (Option Answer) SessionFault
  pub requests : Requests asked old new
  pub is : result ≡ none_of asked

abbrev pub done_of : Result Answer SessionFault → Result (Unit {0}) SessionFault
done_of (Ok a) = Ok tt
done_of (Err fault) = Err fault

pub record IsAnswered (result : Result (Unit {0}) SessionFault) (old new : Conversation) : Type 0 where
  pub answer : Result Answer SessionFault
  pub answers : Answers answer old new
  pub is : result ≡ done_of answer

-- ---- once data are asked for

-- the answer is waited for, and `ok` printed
pub record AwaitsAnswer (queue : Conversation) (result : Result (Unit {0}) SessionFault) (old new : Option (List ℕ)) : Type 0 where
  pub answer : Result Answer SessionFault
  pub stands : Conversation
  pub answers : Answers answer queue stands
  pub prints : Behind answer result old new (λ a. Prints ok_line result old new)

-- what was printed cannot be shown, or the line not be read
pub record Stops (result : Result (Unit {0}) SessionFault) (old new : Option (List ℕ)) : Type 0 where
  pub fault : SessionFault
  pub why : IsOfWriting fault
  pub is : result ≡ Err fault
  pub nothing : new ≡ old

-- .. once a line was read
abbrev pub IsBehindLine : Conversation → Result (Unit {0}) SessionFault → Option (List ℕ) → Option (List ℕ) → Option (List ℕ) → Option (List ℕ) → Type 0
IsBehindLine queue result unread left old new = PassesLine unread left × AwaitsAnswer queue result old new

pub record AwaitsLine (queue : Conversation) (result : Result (Unit {0}) SessionFault) (unread left old new : Option (List ℕ)) : Type 0 where
  pub shown : Option (List ℕ)
  pub keeps : Keeps old shown
  pub ends : Stops result shown new ⊎ IsBehindLine queue result unread left shown new

-- .. and `held` printed
pub record HoldsData (queue : Conversation) (result : Result (Unit {0}) SessionFault) (unread left old new : Option (List ℕ)) : Type 0 where
  pub held : Result (Unit {0}) SessionFault
  pub printed : Option (List ℕ)
  pub prints : Prints held_line held old printed
  pub awaits : Behind held result printed new (λ h. AwaitsLine queue result unread left printed new)

-- ---- the command

-- where the answer comes before data are asked for, `ok` is printed, and no line waited for
abbrev pub HoldsWhere : Option Answer → Conversation → Result (Unit {0}) SessionFault → Option (List ℕ) → Option (List ℕ) → Option (List ℕ) → Option (List ℕ)
    → Type 0
HoldsWhere None queue result unread left old new = HoldsData queue result unread left old new
HoldsWhere (Some a) queue result unread left old new = Prints ok_line result old new × (left ≡ unread)

pub record Holds (queue : Conversation) (result : Result (Unit {0}) SessionFault) (unread left old new : Option (List ℕ)) : Type 0 where
  pub asked : Result (Option Answer) SessionFault
  pub stands : Conversation
  pub requests : Requests asked queue stands
  pub holds : Behind asked result old new (λ a. HoldsWhere a stands result unread left old new)

-- the Write is submitted
pub record HoldsBlocks (fill : Fill) (len : ℕ) (queue : Conversation) (result : Result (Unit {0}) SessionFault)
    (unread left old new : Option (List ℕ)) : Type 0 where
  pub submitted : Result (Unit {0}) SessionFault
  pub stands : Conversation
  pub submits : SubmitsBy (filling fill len) submitted queue stands
  pub holds : Behind submitted result old new (λ s. Holds stands result unread left old new)

-- .. over an I/O queue, none of whose data are in its capsule
pub record HoldsOver (peers : Peers) (fill : Fill) (len : ℕ) (link : LinkState) (admin : Conversation) (result : Result (Unit {0}) SessionFault)
    (unread left old new : Option (List ℕ)) : Type 0 where
  pub queue : Result Conversation SessionFault
  pub connects : Connects (io_queue peers admin.cntlid 0) link admin.turns queue
  pub holds : Behind queue result old new (λ q. IsStarved result old new ⊎ HoldsBlocks fill len q result unread left old new)

pub record HoldsBeside (peers : Peers) (fill : Fill) (link : LinkState) (admin : Conversation) (result : Result (Unit {0}) SessionFault)
    (unread left old new : Option (List ℕ)) : Type 0 where
  pub len : Result ℕ SessionFault
  pub stands : Conversation
  pub asks : AsksBlockLen fill.blocks.nsid len admin stands
  pub holds : Behind len result old new (λ n. HoldsOver peers fill n link stands result unread left old new)

pub record WritesHeld (peers : Peers) (fill : Fill) (turns : ℕ) (admin io : LinkState) (result : Result (Unit {0}) SessionFault)
    (unread left old new : Option (List ℕ)) : Type 0 where
  pub opened : Result Conversation SessionFault
  pub opens : OpensAdmin peers admin turns opened
  pub holds : Behind opened result old new (λ a. HoldsBeside peers fill io a result unread left old new)
