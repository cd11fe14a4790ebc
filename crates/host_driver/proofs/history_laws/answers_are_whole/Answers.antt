use Rattle.host_driver.proofs.Whole.{answers_are_whole}
use Rattle.host_driver.proofs.history_laws.answers_are_whole.Goals as goal

pub returns : goal.returns
returns c = answers_are_whole
