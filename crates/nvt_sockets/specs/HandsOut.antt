-- What sockets hand out.
use Rattle.std.specs.Prelude.{◌≡◌, ◌≤◌, ℕ, Bool, List, Option, Some, None}
use Rattle.nvt_ports.specs.declared.event.PortEvent.{PortEvent}
use Rattle.nvt_ports.specs.Event.{Fits, in_use_after}
use Rattle.nvt_sockets.specs.declared.editor.Heard.{Heard}
use Rattle.nvt_sockets.specs.declared.editor.Heard.TheVariants as heard
use Rattle.nvt_sockets.specs.declared.network.Received.{Received}
use Rattle.nvt_sockets.specs.declared.network.Received.TheVariants as read
use Rattle.nvt_sockets.specs.declared.sockets.Tried.{Tried}
use Rattle.nvt_sockets.specs.declared.sockets.Tried.TheVariants as tried

-- no more bytes than the piece has room for
abbrev pub FitsPiece : ℕ → Received → Type 0
FitsPiece len read.Nothing = Unit {0}
FitsPiece len (read.Bytes n) = n ≤ len
FitsPiece len read.End = Unit {0}
FitsPiece len read.Reset = Unit {0}
FitsPiece len read.Gone = Unit {0}

-- a line that is no longer than the buffer
abbrev pub FitsLine : ℕ → Heard → Type 0
FitsLine len heard.Nothing = Unit {0}
FitsLine len heard.Something = Unit {0}
FitsLine len (heard.Line n) = n ≤ len
FitsLine len (heard.Shown since) = Unit {0}

-- An event fits the slots that were in use, and leaves those in use that it leaves in use; where none comes, these stay.
abbrev pub HandsOut : List Bool → List ℕ → ℕ → Option PortEvent → List Bool → Type 0
HandsOut old room len None new = new ≡ old
HandsOut old room len (Some event) new = Fits old room len event × (new ≡ in_use_after event old)

-- the same of what came of a try
abbrev pub Tries : List Bool → List ℕ → ℕ → Tried → List Bool → Type 0
Tries old room len tried.Nothing new = new ≡ old
Tries old room len tried.Heard new = new ≡ old
Tries old room len (tried.Shown since) new = new ≡ old
Tries old room len (tried.Event event) new = Fits old room len event × (new ≡ in_use_after event old)
