-- How far target and host have come on a connection.
use Rattle.std.specs.Prelude.{ℕ, Bool, true, false, Option, Some, None}
use Rattle.admin_queue.specs.Notices.{notices_at_connect}
use Rattle.target_decision.specs.declared.session.ConnectionState.{ConnectionState}
use Rattle.target_decision.specs.declared.session.Role.{Role}
use Rattle.target_decision.specs.declared.session.Role.TheVariants.{Admin, Io}
use Rattle.target_decision.specs.declared.session.Session.{Session}
use Rattle.target_decision.specs.declared.session.Session.TheVariants.{Opened, Initialized, Connected, Ended}
use Rattle.target_decision.specs.declared.consequence.Consequence.{Consequence}
use Rattle.target_decision.specs.declared.consequence.Consequence.TheVariants as consequence
use Rattle.target_decision.specs.declared.decision.Decision.{Decision}
use Rattle.target_decision.specs.declared.decision.Decision.TheVariants as decision
use Rattle.target_decision.specs.Notice.{notices_after}
use Rattle.target_decision.specs.Queue.{new_queue, responded}

-- a connection on which nothing has come yet
abbrev pub opened_on : ℕ → ConnectionState
opened_on port = record { port = port; session = Opened; alignment = 0; notices = notices_at_connect }

-- whether it is ended: nothing more is consumed or sent
abbrev pub is_ended : Session → Bool
is_ended Opened = false
is_ended Initialized = false
is_ended (Connected role queue) = false
is_ended Ended = true

-- which queue it is, where it is one
abbrev pub role_in : Session → Option Role
role_in (Connected role queue) = Some role
role_in _ = None

-- ---- where a decision leads it

-- a response is counted on a connection that has a queue
abbrev pub responded_in : Session → Session
responded_in (Connected role queue) = Connected role (responded queue)
responded_in Opened = Opened
responded_in Initialized = Initialized
responded_in Ended = Ended

-- a reply, by what follows from it: after a Connect the connection is the queue that it asked for, the response
-- counted
abbrev pub replied : Consequence → Session → Session
replied (consequence.Begin b) session = Connected (Admin b.controller.cntlid) (responded (new_queue b.sqsize))
replied (consequence.Join j) session = Connected (Io j.cntlid j.qid) (responded (new_queue j.sqsize))
replied _ session = responded_in session

abbrev pub session_after : Session → Decision → Session
session_after session (decision.Initialize alignment) = Initialized
session_after session (decision.Reply r) = replied r.consequence session
session_after session (decision.Request q) = session
session_after session (decision.Receive ttag) = session
session_after session (decision.Wait cid) = session
session_after session (decision.Terminate t) = Ended
session_after session decision.Close = Ended

-- the alignment of data that holds after it
abbrev pub alignment_after : ℕ → Decision → ℕ
alignment_after before (decision.Initialize alignment) = alignment
alignment_after before _ = before

abbrev pub turned : ConnectionState → Decision → ConnectionState
turned v d = record v {
  session = session_after v.session d;
  alignment = alignment_after v.alignment d;
  notices = notices_after v.notices d;
}
