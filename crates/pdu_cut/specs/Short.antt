-- How long what stands at the front of a stream is.
use Rattle.std.specs.Prelude.{◌≤◌, length}
use Rattle.pdu_cut.specs.Front.{Front, incomplete, whole, faulty}
use Rattle.pdu_cut.specs.Pdu.{header_part}

-- a PDU's header, or what there is of one at fault, is no longer than a termination may send back (TCP Transport 1.0,
-- section 3.6)
abbrev pub IsShort : Front → Type 0
IsShort incomplete = Unit {0}
IsShort (whole pdu) = length (header_part pdu) ≤ 128
IsShort (faulty fault head) = length head ≤ 128
