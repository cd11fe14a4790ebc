use Rattle.pdu_codec.proofs.ReadBack.{capsules_back}
use Rattle.pdu_codec.proofs.laws.capsules_are_read_back.Goals as goal

pub returns : goal.returns
returns c = capsules_back
