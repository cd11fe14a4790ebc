use Rattle.std.proofs.Common.{◌≡◌}
use Rattle.io_queue.proofs.Readings.{Reading}
use Rattle.io_queue.proofs.reply.read_pieces.Given as goal

-- what was read, and what is still to be read, while the disk has not failed
abbrev pub invariant-loop-piece : goal.invariant-loop-piece
invariant-loop-piece g l =
    record {
      reading : Reading l.format l.extent l.fn.store l.store l.fn.output.items l.output.items l.fn.output.spare l.output.spare l.piece-iterator;
      contents : l.store.contents ≡ l.fn.store.contents;
      faults : l.store.faults ≡ l.fn.store.faults;
    }
