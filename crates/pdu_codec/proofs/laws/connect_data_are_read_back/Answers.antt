use Rattle.pdu_codec.proofs.ConnectReadBack.{connect_data_back}
use Rattle.pdu_codec.proofs.laws.connect_data_are_read_back.Goals as goal

pub returns : goal.returns
returns c = connect_data_back
