-- Laws of conversations: what a host's queue received and gave is what its link handed out and took.
use Rattle.std.specs.Prelude.{◌≡◌, ℕ, List, [], ◌∷◌, ◌++◌, Option, Some, None}
use Rattle.host_driver.specs.declared.params.HostParams.{HostParams}
use Rattle.host_driver.specs.Command.{Command}
use Rattle.host_driver.specs.Event.{History, submitted}
use Rattle.host_driver.specs.Queue.{Agrees, with_taken}
use Rattle.host_link.specs.Conversation.{Conversation, Receiving, Sending, Step, came, failed, not_asked, sent, unsent}
use Rattle.host_link.specs.Link.{LinkState, Told}
use Rattle.host_link.specs.Session.{IsBegun, SubmitsNext}
use Rattle.host_link.specs.Turn.{TakesTurn, Turn}

-- ---- what is done in turns

-- the history, the newest event first, once these steps were made, the newest of which is the first
abbrev pub history_after : List Step → History → History
history_after [] h = h
history_after (s ∷ ss) h = with_taken s.fronts (history_after ss h)

abbrev pub sent_in : Sending → List ℕ
sent_in (sent bytes) = bytes
sent_in unsent = []

abbrev pub sent_last : Option Sending → List ℕ
sent_last None = []
sent_last (Some s) = sent_in s

-- the bytes that the link took in a turn, and those that it handed out
abbrev pub took_in : Turn → List ℕ
took_in t = sent_in t.sending ++ sent_last t.last

abbrev pub came_in : Receiving → List ℕ
came_in (came bytes) = bytes
came_in failed = []
came_in not_asked = []

-- ---- agreement

-- After these events, with these bytes handed out by the link and these taken by it so far, the queue agrees with the
-- history: it received what was handed out, but for what is held, and gave what was taken.
pub record ConversationAgrees (params : HostParams) (h : History) (handed_out took : List ℕ) (c : Conversation) : Type 0 where
  pub received : List ℕ
  pub arrived : handed_out ≡ received ++ c.held
  pub queue : Agrees params h received took c.queue

-- A conversation that begins agrees with no events. Whatever it agrees with, after a command is submitted it agrees with
-- that event too, and after a turn with the events of its steps, where the link took and handed out what the turn says.
pub record ConversationsAgree : Type 0 where
  pub begun : (params : HostParams) (link : LinkState) (turns : ℕ) (c : Conversation) → IsBegun params link turns c → ConversationAgrees params [] [] [] c
  pub submits : (c : Command) (old new : Conversation) → (s : SubmitsNext c old new)
      → (params : HostParams) (h : History) (handed_out took : List ℕ) → ConversationAgrees params h handed_out took old
      → ConversationAgrees params (submitted s.cid c ∷ h) handed_out took new
  pub turn : (t : Turn) (old new : Conversation) → TakesTurn t old new
      → (params : HostParams) (h : History) (handed_out took : List ℕ) → ConversationAgrees params h handed_out took old
      → ConversationAgrees params (history_after t.steps h) (handed_out ++ came_in t.receiving) (took ++ took_in t) new

-- A link that tells says of a turn what it took and handed out in it.
pub record LinksTell : Type 0 where
  pub turn : (t : Turn) (old new : Conversation) (told : Told) → TakesTurn t old new → old.link.told ≡ Some told
      → new.link.told ≡ Some (record { took = told.took ++ took_in t; handed_out = told.handed_out ++ came_in t.receiving })
