use Rattle.pdu_codec.proofs.ReadBack.{requests_back}
use Rattle.pdu_codec.proofs.laws.requests_are_read_back.Goals as goal

pub returns : goal.returns
returns c = requests_back
