-- The commands of a queue that are not completed, by their identifiers.
use Rattle.std.specs.Prelude.{ℕ, ◌+◌, List, [], ◌++◌, length, replicate, Option, Some, None, option_map}
use Rattle.tables.specs.NumberTable.{place, with_value}
use Rattle.host_driver.specs.declared.outstanding.Outstanding.{Outstanding}
use Rattle.host_driver.specs.declared.command.Data.{Data}
use Rattle.host_driver.specs.declared.command.Data.TheVariants.{InCapsule, Requested, Wanted}
use Rattle.host_driver.specs.Command.{Command, data_of}

-- A command that is outstanding: the data that are sent as the controller asks for them, how many bytes of
-- them it asked for, how many bytes are wanted of it, and those that came.
pub record Pending : Type 0 where
  pub out : List ℕ
  pub asked : ℕ
  pub into : ℕ
  pub came : List ℕ

-- what a command that is submitted has to send behind its capsule
abbrev pub behind_by : Data → List ℕ → List ℕ
behind_by (InCapsule len) out = []
behind_by (Requested len) out = out
behind_by (Wanted len) out = []

-- a command that has just been submitted
abbrev pub begun : ℕ → Command → Pending
begun in_capsule c = record { out = behind_by (data_of in_capsule c) c.out; asked = 0; into = c.into; came = [] }

-- the Connect, whose data are in its capsule
abbrev pub connect_begun : Pending
connect_begun = record { out = []; asked = 0; into = 0; came = [] }

-- more of the data that are wanted
abbrev pub with_data : List ℕ → Pending → Pending
with_data bytes p = record { out = p.out; asked = p.asked; into = p.into; came = p.came ++ bytes }

-- more of the data to send was asked for
abbrev pub with_request : ℕ → Pending → Pending
with_request len p = record { out = p.out; asked = p.asked + len; into = p.into; came = p.came }

-- how far the data of a command have moved
abbrev pub outstanding_of : Pending → Outstanding
outstanding_of p = record { out = length p.out; asked = p.asked; into = p.into; came = length p.came }

-- what a queue has at each identifier, from 0 to SQSIZE - 1
abbrev pub Commands : Type 0
Commands = List (Option Pending)

-- .. of the command of an identifier, where one is named
abbrev pub outstanding_at : Commands → Option ℕ → Option Outstanding
outstanding_at commands None = None
outstanding_at commands (Some cid) = option_map outstanding_of (place commands cid)

-- the same commands, that of an identifier changed
abbrev pub changed_by : Commands → ℕ → (Pending → Pending) → Option Pending → Commands
changed_by commands cid change None = commands
changed_by commands cid change (Some p) = with_value commands cid (change p)

abbrev pub changed : Commands → ℕ → (Pending → Pending) → Commands
changed commands cid change = changed_by commands cid change (place commands cid)

-- the Connect alone
abbrev pub first_commands : ℕ → Commands
first_commands places = with_value (replicate places None) 0 connect_begun
