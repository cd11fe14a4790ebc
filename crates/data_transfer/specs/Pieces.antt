-- The pieces in which the data of a reply goes to the host (TCP Transport 1.0, section 3.3).
use Rattle.std.specs.Prelude.{ℕ, ◌+◌, ◌-◌, ◌*◌, ◌/◌, ◌==◌, min, List, map}
use Rattle.std.specs.List.{range_with_len}
use Rattle.data_transfer.specs.declared.piece.Piece.{Piece}

-- how many pieces of at most 32,768 bytes so many bytes make
abbrev pub piece_count : ℕ → ℕ
piece_count len = (len + 32767) / 32768

-- the piece of that number, from 0 on, of so many bytes that begin at an offset
abbrev pub piece_at : ℕ → ℕ → ℕ → Piece
piece_at offset len n = record {
  offset = offset + n * 32768;
  len = min 32768 (len - n * 32768);
  last = n + 1 == piece_count len;
}

-- so many bytes from an offset on in pieces
unfoldable pub pieces_from : ℕ → ℕ → List Piece
pieces_from offset len = map (piece_at offset len) (range_with_len 0 (piece_count len))

-- .. and all of them
abbrev pub pieces : ℕ → List Piece
pieces len = pieces_from 0 len
