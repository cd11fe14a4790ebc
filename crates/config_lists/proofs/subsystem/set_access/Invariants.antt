use Rattle.std.proofs.Common.{◌≡◌, ◌++◌, take, drop}
use Rattle.std.specs.Str.{bytes_eq}
use Rattle.config_lists.specs.declared.subsystem.Subsystem.{Subsystem}
use Rattle.config_lists.specs.Lists.{changed_where}
use Rattle.config_lists.proofs.subsystem.set_access.Given as goal

-- the subsystems before the index are set, and the others as they were
abbrev pub invariant-loop-subsystem : goal.invariant-loop-subsystem
invariant-loop-subsystem l =
    let set : Subsystem → Subsystem = λ subsystem. record subsystem { access = l.access } in
    l.subsystems ≡ changed_where (λ subsystem. bytes_eq subsystem.nqn l.nqn) set (take l.subsystem-index l.fn.subsystems) ++ drop l.subsystem-index l.fn.subsystems
