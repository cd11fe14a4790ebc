use Rattle.std.proofs.Common.{rules}
use Rattle.pdu_codec.proofs.data_pdu.data_offset.Goals as goal

pub returns-clause-value : goal.returns-clause-value
returns-clause-value c = search rules
