use Rattle.host_link.proofs.Agreement.{links_tell}
use Rattle.host_link.proofs.laws.links_tell.Goals as goal

pub returns : goal.returns
returns c = links_tell
