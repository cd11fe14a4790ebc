use Rattle.config_saved.proofs.Whole.{saved_gives_equal}
use Rattle.config_saved.proofs.laws.saved_is_equal.Goals as goal

pub returns : goal.returns
returns c = saved_gives_equal
