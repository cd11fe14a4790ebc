use Rattle.nvt_config.proofs.Others.{stays}
use Rattle.nvt_config.proofs.reach.others_stay.Goals as goal

pub returns : goal.returns
returns c = stays
