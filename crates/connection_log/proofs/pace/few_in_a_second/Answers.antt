use Rattle.connection_log.proofs.Paces.{at_most_100}
use Rattle.connection_log.proofs.pace.few_in_a_second.Goals as goal

pub returns : goal.returns
returns c times second falls = at_most_100 times second falls
