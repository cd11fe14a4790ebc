use Rattle.target_state.proofs.Changing.{new_tables}
use Rattle.target_state.proofs.controllers.ControllerTables.new.Goals as goal

pub invariant_of-result : goal.invariant_of-result
invariant_of-result c = new_tables _ _ c.in_ok-new.ensures c.in_ok-new-2.ensures
