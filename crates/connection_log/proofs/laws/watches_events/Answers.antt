use Rattle.connection_log.proofs.Conversations.{watches_events}
use Rattle.connection_log.proofs.laws.watches_events.Goals as goal

pub returns : goal.returns
returns c = watches_events
