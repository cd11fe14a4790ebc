use Rattle.std.proofs.Common.{rules}
use Rattle.pdu_codec.proofs.connect_data.ConnectData.read.Goals as goal

pub returns-clause-subnqn : goal.returns-clause-subnqn
returns-clause-subnqn c = search rules
