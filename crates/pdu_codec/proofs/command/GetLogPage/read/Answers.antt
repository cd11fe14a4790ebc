use Rattle.std.proofs.Common.{rules}
use Rattle.pdu_codec.proofs.command.GetLogPage.read.Goals as goal

pub returns : goal.returns
returns c = search rules
