-- Which subsystem a host may use.
use Rattle.std.specs.Prelude.{ℕ, Bool, ◌&&◌, ◌||◌, List}
use Rattle.std.specs.List.{list_any}
use Rattle.std.specs.Str.{bytes_eq}
use Rattle.config_lists.specs.declared.subsystem.Subsystem.{Subsystem}
use Rattle.config_lists.specs.Subsystem.{is_open}
use Rattle.nvt_config.specs.Configuration.{Configuration, has_allow, has_link}

abbrev pub is_open_subsystem : List Subsystem → List ℕ → Bool
is_open_subsystem subsystems nqn =
    list_any (λ subsystem. bytes_eq subsystem.nqn nqn && is_open subsystem.access) subsystems

-- whether the host of that name may use the subsystem through the port: the two are linked, and the
-- subsystem is open or allows the host
abbrev pub may_use : Configuration → List ℕ → List ℕ → ℕ → Bool
may_use c host nqn port =
    has_link c.links port nqn && (is_open_subsystem c.subsystems nqn || has_allow c.allows nqn host)
