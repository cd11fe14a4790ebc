use Rattle.host_driver.proofs.Behaving.{understands}
use Rattle.host_driver.proofs.history_laws.controllers_are_understood.Goals as goal

pub returns : goal.returns
returns c = understands
