use Rattle.std.proofs.Common.{ℕ, arith}
use Rattle.std.proofs.lemmas.List.{length-replicate}
use Rattle.nvt_serve.proofs.Looking.{no_room}
use Rattle.nvt_serve.proofs.closing.rooms_of.Goals as goal

pub loop-slot-init : goal.loop-slot-init
loop-slot-init g c = record {
  rooms = λ s below. absurd (omega (arith, below));
  rest = λ s past. no_room 64 s;
  whole = length-replicate {A = ℕ} 64 0;
}
