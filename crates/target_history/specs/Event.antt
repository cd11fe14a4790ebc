-- What happens to a target.
use Rattle.std.specs.Prelude.{ℕ, Bool, false, ◌==◌}
use Rattle.config_lists.specs.declared.edit.Edit.{Edit}
use Rattle.io_queue.specs.Act.{DiskOutcome, good}
use Rattle.pdu_cut.specs.Front.{Front, incomplete}

-- An edit was accepted; a connection was opened on a port and got a number; a step of a connection found
-- this at the front of its stream, a whole PDU, which it consumed, or a fault, and the disks did this; a
-- connection was given up; the clock was set, in ms. What a call refuses, and a step that is idle, is no event.
pub data Event : Type 0 where
  edited : Edit → Event
  opened : ℕ → ℕ → Event
  stepped : ℕ → Front → DiskOutcome → Event
  given_up : ℕ → Event
  ticked : ℕ → Event

-- whether it opens connection k
abbrev pub opens : Event → ℕ → Bool
opens (opened port n) k = k == n
opens _ k = false

-- the port that it opens a connection on
abbrev pub port_in : Event → ℕ
port_in (opened port n) = port
port_in _ = 0

-- whether it gives connection k up
abbrev pub gives_up : Event → ℕ → Bool
gives_up (given_up n) k = k == n
gives_up _ k = false

-- whether it is a step of connection k
abbrev pub steps : Event → ℕ → Bool
steps (stepped n front m) k = k == n
steps _ k = false

-- what a step found at the front of the stream
abbrev pub front_in : Event → Front
front_in (stepped n front m) = front
front_in _ = incomplete

-- what the disks did: all that was asked of them, where nothing was
abbrev pub disk_outcome_in : Event → DiskOutcome
disk_outcome_in (stepped n front m) = m
disk_outcome_in _ = good
