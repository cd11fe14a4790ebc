-- The data of a reply, and where their bytes come from.
use Rattle.std.specs.Prelude.{ℕ, List, Option, Some, None}
use Rattle.std.specs.Option.{option_map}
use Rattle.admin_queue.specs.Controller.{controller_in}
use Rattle.admin_queue.specs.Payload.{payload_bytes, payload_len}
use Rattle.target_decision.specs.declared.data.Data.{Data}
use Rattle.admin_queue.specs.declared.payload.Payload.{Payload}
use Rattle.admin_queue.specs.Controller.{AdminController}
use Rattle.target_decision.specs.declared.decision.Decision.{Decision}
use Rattle.target_decision.specs.declared.session.ConnectionState.{ConnectionState}
use Rattle.target_decision.specs.Decision.{payload_of}
use Rattle.target_decision.specs.World.{World, admin_controller_in, world_in}

abbrev pub bytes_of : Data → List ℕ
bytes_of d = payload_bytes d.payload (world_in d.world.now).pages (world_in d.world.now).config (controller_in d.controller)

-- .. where there are any
abbrev pub bytes_in : Option Data → Option (List ℕ)
bytes_in d = option_map bytes_of d

-- it is known before the bytes are made, so that `prepare` can make room for them
abbrev pub len_in : Option Data → ℕ
len_in None = 0
len_in (Some d) = payload_len d.payload

-- .. by what is decided on a connection
abbrev pub payload_len_at : Option AdminController → Option Payload → ℕ
payload_len_at c None = 0
payload_len_at None (Some payload) = 0
payload_len_at (Some c) (Some payload) = payload_len payload

abbrev pub data_len : World → ConnectionState → Decision → ℕ
data_len w v d = payload_len_at (admin_controller_in w v) (payload_of d)
