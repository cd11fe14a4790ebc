use Rattle.std.proofs.Common.{ℕ, List}
use Rattle.connection_log.specs.Reading.{Reading}
use Rattle.connection_log.proofs.Readings.{nothing_read}
use Rattle.connection_log.proofs.pdu_front.PduFront.new.Goals as goal

first : (most : ℕ) (front : List ℕ) → Reading
first most front = record { most = most; came = 0; front = front }

pub returns-clause-stream : goal.returns-clause-stream
returns-clause-stream c = rw c.in_ok-with_capacity.ensures.items (nothing_read c.args.most)
