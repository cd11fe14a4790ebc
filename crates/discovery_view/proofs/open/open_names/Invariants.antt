use Rattle.std.proofs.Common.{◌≡◌, ◌||◌, ℕ, List, bytes_eq, drop}
use Rattle.std.specs.List.{list_any}
use Rattle.nvt_config.specs.Permission.{is_open_subsystem}
use Rattle.discovery_view.proofs.open.open_names.Given as goal

-- a subsystem is open by a name so far, or as one of those that are left
abbrev pub invariant-loop-subsystem : goal.invariant-loop-subsystem
invariant-loop-subsystem l =
    (nqn : List ℕ) → (list_any (λ name. bytes_eq name.now nqn) l.names.items || is_open_subsystem (drop l.subsystem-index l.subsystem-items) nqn) ≡ is_open_subsystem l.config.subsystems nqn
