use Rattle.host_link.proofs.Agreement.{conversations_agree}
use Rattle.host_link.proofs.laws.conversations_agree.Goals as goal

pub returns : goal.returns
returns c = conversations_agree
