use Rattle.connection_log.proofs.Readings.{without_header}
use Rattle.connection_log.proofs.pdu_front.PduFront.is_whole.Goals as goal

pub returns-else-self-ge-HEADER_LEN-clause-whole : goal.returns-else-self-ge-HEADER_LEN-clause-whole
returns-else-self-ge-HEADER_LEN-clause-whole c =
    rw (← c.self.view_is) (without_header (record { most = c.self.inside.most; came = c.self.inside.came; front = c.self.inside.front.items }) c.if-self-ge-HEADER_LEN.false)
