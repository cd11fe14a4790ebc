use Rattle.std.proofs.Common.{rules}
use Rattle.pdu_codec.proofs.command.Property.read.Goals as goal

pub returns : goal.returns
returns c = search rules
