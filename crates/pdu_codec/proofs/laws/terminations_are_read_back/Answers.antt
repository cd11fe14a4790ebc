use Rattle.pdu_codec.proofs.ReadBack.{terminations_back}
use Rattle.pdu_codec.proofs.laws.terminations_are_read_back.Goals as goal

pub returns : goal.returns
returns c = terminations_back
