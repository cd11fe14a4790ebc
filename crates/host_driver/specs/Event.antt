-- What happens on a host's queue.
use Rattle.std.specs.Prelude.{ℕ, List, []}
use Rattle.pdu_cut.specs.Front.{Front, incomplete, whole, faulty}
use Rattle.pdu_cut.specs.Pdu.{data_part, header_part}
use Rattle.host_driver.specs.Command.{Command}

-- a command is submitted under an identifier; or what stands at the front of what came is taken: a whole
-- PDU, or the fault of a common header
pub data Event : Type 0 where
  submitted : ℕ → Command → Event
  taken : Front → Event

-- the events of a queue, the newest first
abbrev pub History : Type 0
History = List Event

-- ---- what a front has

-- the header that goes back where it is at fault
abbrev pub head_at : Front → List ℕ
head_at incomplete = []
head_at (whole pdu) = header_part pdu
head_at (faulty fault head) = head

abbrev pub data_at : Front → List ℕ
data_at incomplete = []
data_at (whole pdu) = data_part pdu
data_at (faulty fault head) = []

-- the bytes that are consumed with it: those of a whole PDU
abbrev pub consumed_at : Front → List ℕ
consumed_at incomplete = []
consumed_at (whole pdu) = pdu.bytes
consumed_at (faulty fault head) = []
