-- What commands ask controllers for, and over which queues.
use Rattle.std.specs.Prelude.{◌≡◌, ℕ, List, Option, Some, None, Result, Ok, Err}
use Rattle.host_driver.specs.Command.{Command}
use Rattle.host_driver.specs.declared.answer.Answer.{Answer}
use Rattle.host_link.specs.declared.fault.SessionFault.{SessionFault}
use Rattle.host_link.specs.declared.fault.SessionFault.TheVariants.{BadPage}
use Rattle.host_link.specs.Commands.{identify}
use Rattle.host_link.specs.Conversation.{Conversation}
use Rattle.host_link.specs.Link.{LinkState}
use Rattle.host_link.specs.Session.{Connects, Enables, Executes}
use Rattle.host_program.specs.declared.peers.Peers.{Peers}
use Rattle.host_program.specs.Asked.{block_len_of}
use Rattle.host_program.specs.Peers.{admin_queue}

-- ---- queues

-- a conversation, where nothing failed in it
abbrev pub where_ok : {A : Type 0} → A → Result (Unit {0}) SessionFault → Result A SessionFault
where_ok a (Ok done) = Ok a
where_ok a (Err fault) = Err fault

abbrev pub EnablesNext : Result Conversation SessionFault → Result Conversation SessionFault → Type 0
EnablesNext (Ok connected) result =
    (enabled : Result (Unit {0}) SessionFault) × (new : Conversation) × Enables enabled connected new × (result ≡ where_ok new enabled)
EnablesNext (Err fault) result = result ≡ Err fault

-- the admin queue of a new controller is connected over this link, and the controller enabled
pub record OpensAdmin (peers : Peers) (link : LinkState) (turns : ℕ) (result : Result Conversation SessionFault) : Type 0 where
  pub connected : Result Conversation SessionFault
  pub connects : Connects (admin_queue peers) link turns connected
  pub enables : EnablesNext connected result

-- ---- commands

-- what this of an answer is
abbrev pub of_answer : {A : Type 0} → (Answer → A) → Result Answer SessionFault → Result A SessionFault
of_answer part (Ok a) = Ok (part a)
of_answer part (Err fault) = Err fault

-- a command is executed, and this part of its answer taken
pub record Asks {A : Type 0} (part : Answer → A) (c : Command) (result : Result A SessionFault) (old new : Conversation) : Type 0 where
  pub answer : Result Answer SessionFault
  pub executes : Executes c answer old new
  pub is : result ≡ of_answer part answer

-- the bytes that came
abbrev pub payload_of : Answer → List ℕ
payload_of a = a.payload.items

abbrev pub result_of : Answer → ℕ
result_of a = a.result

-- a page is bad where it does not say
abbrev pub or_bad : Option ℕ → Result ℕ SessionFault
or_bad None = Err BadPage
or_bad (Some n) = Ok n

abbrev pub block_len_by : Result (List ℕ) SessionFault → Result ℕ SessionFault
block_len_by (Ok namespace) = or_bad (block_len_of namespace)
block_len_by (Err fault) = Err fault

-- Identify of a namespace says how long its blocks are
pub record AsksBlockLen (nsid : ℕ) (result : Result ℕ SessionFault) (old new : Conversation) : Type 0 where
  pub namespace : Result (List ℕ) SessionFault
  pub asks : Asks payload_of (identify 0 nsid) namespace old new
  pub is : result ≡ block_len_by namespace
