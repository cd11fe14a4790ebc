use Rattle.std.proofs.Common.{rules}
use Rattle.pdu_codec.proofs.termination.fields.Goals as goal

pub returns : goal.returns
returns c = search rules
