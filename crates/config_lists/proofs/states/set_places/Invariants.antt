use Rattle.std.proofs.Common.{take}
use Rattle.config_lists.specs.GroupState.{is_state_for}
use Rattle.config_lists.specs.Tables.{IsTable}
use Rattle.config_lists.proofs.states.set_places.Given as goal

-- the table is that of the states so far
abbrev pub invariant-loop-state : goal.invariant-loop-state
invariant-loop-state l = IsTable (is_state_for l.port l.subsystem) (take l.state-index l.states) l.places
