use Rattle.connection_log.proofs.Conversations.{pieces_do_not_matter}
use Rattle.connection_log.proofs.laws.pieces_do_not_matter.Goals as goal

pub returns : goal.returns
returns c = pieces_do_not_matter
