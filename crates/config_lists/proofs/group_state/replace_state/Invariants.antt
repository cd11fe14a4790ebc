use Rattle.std.proofs.Common.{◌≡◌, ◌++◌, take, drop}
use Rattle.config_lists.specs.GroupState.{is_state_for, with_state}
use Rattle.config_lists.specs.Lists.{changed_where}
use Rattle.config_lists.proofs.group_state.replace_state.Given as goal

-- the states before the index are set, and the others as they were
abbrev pub invariant-loop-old : goal.invariant-loop-old
invariant-loop-old l =
    l.states ≡ changed_where (is_state_for l.port l.subsystem l.group) (with_state l.state) (take l.old-index l.fn.states) ++ drop l.old-index l.fn.states
