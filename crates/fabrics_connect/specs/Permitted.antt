-- Whether the host of a controller may use its subsystem.
use Rattle.std.specs.Prelude.{ℕ, Bool, true, List, Option, Some, None}
use Rattle.nvt_config.specs.Configuration.{Configuration}
use Rattle.nvt_config.specs.Permission.{may_use}
use Rattle.fabrics_connect.specs.declared.row.Row.{Row}

-- any host may use a discovery controller, which is of no subsystem
abbrev pub may_use_named : Configuration → List ℕ → Option (List ℕ) → ℕ → Bool
may_use_named config host None port = true
may_use_named config host (Some nqn) port = may_use config host nqn port

-- .. through the port that the controller was made on
abbrev pub is_permitted : Configuration → Row → Bool
is_permitted config row = may_use_named config row.host row.subsystem row.port
