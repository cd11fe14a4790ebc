-- The ANA states that were set (Base 2.0, section 8.1).
use Rattle.std.specs.Prelude.{ℕ, ◌==◌, Bool, true, false, ◌&&◌, List, Option, Some, None, find}
use Rattle.std.specs.Str.{bytes_eq}
use Rattle.config_lists.specs.declared.group_state.AnaState.{AnaState}
use Rattle.config_lists.specs.declared.group_state.AnaState.TheVariants.{Optimized, NonOptimized, Inaccessible, PersistentLoss, Change}
use Rattle.config_lists.specs.declared.group_state.GroupState.{GroupState}

-- whether it is the state where none was set
abbrev pub is_optimized : AnaState → Bool
is_optimized Optimized = true
is_optimized NonOptimized = false
is_optimized Inaccessible = false
is_optimized PersistentLoss = false
is_optimized Change = false

-- whether it is the state on this port of a group of this subsystem
abbrev pub is_state_on : ℕ → List ℕ → GroupState → Bool
is_state_on port subsystem s = (s.port == port) && bytes_eq s.subsystem subsystem

-- .. of this group
abbrev pub is_state_for : ℕ → List ℕ → ℕ → GroupState → Bool
is_state_for port subsystem group s = is_state_on port subsystem s && (s.group == group)

abbrev pub state_or : Option GroupState → AnaState
state_or None = Optimized
state_or (Some s) = s.state

-- the state on a port of a group of a subsystem: optimized where none was set
abbrev pub state_for : ℕ → List ℕ → ℕ → List GroupState → AnaState
state_for port subsystem group states = state_or (find (is_state_for port subsystem group) states)

-- .. after this one is set
abbrev pub with_state : AnaState → GroupState → GroupState
with_state state s = record s { state = state }
