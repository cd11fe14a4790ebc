use Rattle.nvt_config.proofs.Seeing.{sees_what_is_shown}
use Rattle.nvt_config.proofs.laws.hosts_see_what_is_shown.Goals as goal

pub returns : goal.returns
returns c = sees_what_is_shown
