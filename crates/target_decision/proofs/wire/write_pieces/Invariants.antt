use Rattle.std.proofs.Common.{◌≡◌, ◌⊎◌, length}
use Rattle.admin_queue.specs.Payload.{payload_len}
use Rattle.data_transfer.specs.Pieces.{pieces}
use Rattle.io_queue.proofs.Sending.{Sending}
use Rattle.target_decision.specs.Data.{bytes_of}
use Rattle.target_decision.proofs.wire.write_pieces.Given as goal

-- what is still to be appended; a piece has shown how many bytes there are
abbrev pub invariant-loop-piece : goal.invariant-loop-piece
invariant-loop-piece l =
    record {
      sending : Sending l.format (bytes_of l.payload) (payload_len l.payload.payload) l.fn.output.items l.output.items l.fn.output.spare l.output.spare l.piece-iterator;
      long : (l.piece-iterator ≡ pieces (payload_len l.payload.payload)) ⊎ (length (bytes_of l.payload) ≡ payload_len l.payload.payload);
    }
