use Rattle.config_lists.proofs.Tables.{none_at_first}
use Rattle.config_lists.proofs.states.StateTable.of.Goals as goal

pub set_places-requires : goal.set_places-requires
set_places-requires c = none_at_first 33
