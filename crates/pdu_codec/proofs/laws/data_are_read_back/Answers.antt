use Rattle.pdu_codec.proofs.ReadBack.{data_back}
use Rattle.pdu_codec.proofs.laws.data_are_read_back.Goals as goal

pub returns : goal.returns
returns c = data_back
