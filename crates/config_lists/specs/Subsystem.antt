-- What a subsystem may hold.
use Rattle.std.specs.Prelude.{ℕ, Bool, true, false, not, ◌&&◌, List}
use Rattle.std.specs.Str.{bytes_eq}
use Rattle.nvt_fields.specs.Name.{discovery_nqn}
use Rattle.config_lists.specs.declared.subsystem.Access.{Access}
use Rattle.config_lists.specs.declared.subsystem.Access.TheVariants.{Open, Closed}
use Rattle.config_lists.specs.declared.subsystem.Subsystem.{Subsystem}
use Rattle.config_lists.specs.Text.{is_word}

-- an open subsystem needs no allow: each host may use it on the ports that it is linked to
abbrev pub is_open : Access → Bool
is_open Open = true
is_open Closed = false

-- it fits SN of Identify Controller, and is one word of a line: no space is in it
abbrev pub is_serial : List ℕ → Bool
is_serial = is_word 20

-- the discovery subsystem is served without being listed
abbrev pub is_discovery : List ℕ → Bool
is_discovery nqn = bytes_eq nqn discovery_nqn

abbrev pub is_subsystem : Subsystem → Bool
is_subsystem subsystem = not (is_discovery subsystem.nqn) && is_serial subsystem.serial
