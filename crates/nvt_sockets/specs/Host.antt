-- How far a host is.
use Rattle.std.specs.Prelude.{Bool, true, false}
use Rattle.nvt_sockets.specs.declared.host.Peer.{Peer}
use Rattle.nvt_sockets.specs.declared.host.Peer.TheVariants.{Absent, Open, Ended, Reset}

-- it is there, and may read what it is sent
abbrev pub has_socket : {S : Type 0} → Peer S → Bool
has_socket Absent = false
has_socket (Open stream) = true
has_socket (Ended stream) = true
has_socket Reset = false
