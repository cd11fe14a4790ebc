use Rattle.std.proofs.Common.{rules}
use Rattle.pdu_codec.proofs.sqe.Sqe.sgl1.Goals as goal

pub returns : goal.returns
returns c = search rules
