use Rattle.connection_log.proofs.Conversations.{keeps_connect, keeps_front}
use Rattle.connection_log.proofs.laws.connect_is_kept.Goals as goal

pub returns-clause-front : goal.returns-clause-front
returns-clause-front c = keeps_front

pub returns-clause-stays : goal.returns-clause-stays
returns-clause-stays c = keeps_connect
