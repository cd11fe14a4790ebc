use Rattle.connection_log.proofs.Conversations.{sizes_stay}
use Rattle.connection_log.proofs.laws.sizes_stay.Goals as goal

pub returns : goal.returns
returns c = sizes_stay
