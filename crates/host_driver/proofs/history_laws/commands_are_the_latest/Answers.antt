use Rattle.host_driver.proofs.Latest.{commands_are_the_latest}
use Rattle.host_driver.proofs.history_laws.commands_are_the_latest.Goals as goal

pub returns : goal.returns
returns c = commands_are_the_latest
