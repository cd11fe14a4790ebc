-- A buffer for a piece of a reply.
use Rattle.std.specs.Prelude.{◌≤◌, ◌+◌, length}
use Rattle.bytes.specs.Filled.{Filled}

-- it holds, and has room for, no more bytes than an editor keeps
abbrev pub HoldsPiece : Filled → Type 0
HoldsPiece piece = length piece.items + piece.spare ≤ 2048
