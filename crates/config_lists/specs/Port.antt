-- What a port may hold.
use Rattle.std.specs.Prelude.{ℕ, Bool, ◌&&◌, nat_le, List}
use Rattle.config_lists.specs.declared.port.Port.{Port}
use Rattle.config_lists.specs.Text.{is_word}

-- a port's number, and that of its service
abbrev pub is_port_number : ℕ → Bool
is_port_number n = nat_le 1 n && nat_le n 65535

-- it fits TRADDR of a discovery record, and is one word of a line: no space is in it
abbrev pub is_address : List ℕ → Bool
is_address = is_word 256

abbrev pub is_port : Port → Bool
is_port port = is_port_number port.id && (is_address port.address && is_port_number port.service)
