use Rattle.pdu_codec.proofs.ReadBack.{entries_back}
use Rattle.pdu_codec.proofs.laws.entries_are_read_back.Goals as goal

pub returns : goal.returns
returns c = entries_back
