use Rattle.pdu_codec.proofs.ReadBack.{connects_back}
use Rattle.pdu_codec.proofs.laws.connects_are_read_back.Goals as goal

pub returns : goal.returns
returns c = connects_back
