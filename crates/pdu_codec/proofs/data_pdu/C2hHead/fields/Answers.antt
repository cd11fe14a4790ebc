use Rattle.std.proofs.Common.{rules}
use Rattle.pdu_codec.proofs.data_pdu.C2hHead.fields.Goals as goal

pub returns : goal.returns
returns c = search rules
