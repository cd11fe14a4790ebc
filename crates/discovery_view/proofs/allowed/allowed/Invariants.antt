use Rattle.std.proofs.Common.{◌≡◌, ◌||◌, ℕ, List, drop}
use Rattle.nvt_config.specs.Configuration.{has_allow}
use Rattle.discovery_view.specs.Allowed.{is_named}
use Rattle.discovery_view.proofs.allowed.allowed.Given as goal

-- a subsystem allows the host by a name so far, or by an allow that is left
abbrev pub invariant-loop-allow : goal.invariant-loop-allow
invariant-loop-allow l =
    (nqn : List ℕ) → (is_named l.names.items nqn || has_allow (drop l.allow-index l.allow-items) nqn l.host) ≡ has_allow l.config.allows nqn l.host
