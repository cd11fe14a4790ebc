use Rattle.connection_log.proofs.Readings.{nothing_read}
use Rattle.connection_log.proofs.pdu_front.PduFront.clear.Goals as goal

pub returns-clause-stream : goal.returns-clause-stream
returns-clause-stream c = rw c.clear.ensures.items (nothing_read c.self.inside.most)
