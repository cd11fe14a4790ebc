use Rattle.host_driver.proofs.Keeping.{replies_are_told}
use Rattle.host_driver.proofs.history_laws.replies_are_told.Goals as goal

pub returns : goal.returns
returns c = replies_are_told
