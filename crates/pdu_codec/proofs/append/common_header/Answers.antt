use Rattle.std.proofs.Common.{rules}
use Rattle.pdu_codec.proofs.append.common_header.Goals as goal

pub returns : goal.returns
returns c = search rules
