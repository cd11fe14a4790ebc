use Rattle.std.proofs.Common.{◌≡◌, ◌||◌, ℕ, List, drop}
use Rattle.config_lists.specs.Lists.{without}
use Rattle.nvt_config.specs.Configuration.{has_allow}
use Rattle.discovery_view.specs.Allowed.{is_allow_of, is_named}
use Rattle.discovery_view.proofs.allowed.allowed_but.Given as goal

-- a subsystem allows the host by a name so far, or by an allow that is left and is not the one that is taken
abbrev pub invariant-loop-allow : goal.invariant-loop-allow
invariant-loop-allow l =
    (nqn : List ℕ) → (is_named l.names.items nqn || has_allow (without (is_allow_of l.subsystem l.host) (drop l.allow-index l.allow-items)) nqn l.host)
    ≡ has_allow (without (is_allow_of l.subsystem l.host) l.config.allows) nqn l.host
