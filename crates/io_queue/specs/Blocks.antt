-- The blocks of a command (NVM Command Set 1.0, section 3.2).
use Rattle.std.specs.Prelude.{ℕ, ◌+◌, ◌*◌, nat_lt, Result, Ok}
use Rattle.config_lists.specs.declared.namespace.BlockSize.{BlockSize}
use Rattle.config_lists.specs.declared.namespace.BlockSize.TheVariants.{Bytes512, Bytes4096}
use Rattle.config_lists.specs.declared.namespace.Namespace.{Namespace}
use Rattle.config_lists.specs.Namespace.{bytes_of}
use Rattle.nvt_fields.specs.declared.status.Status.{Status}
use Rattle.nvt_fields.specs.Status.{invalid_field, lba_out_of_range}
use Rattle.pdu_codec.specs.declared.command.BlockCommand.{BlockCommand}
use Rattle.io_queue.specs.declared.operation.Extent.{Extent}
use Rattle.io_queue.specs.Reach.{refuse}

-- how many units of 512 bytes a block has
abbrev pub units_of : BlockSize → ℕ
units_of Bytes512 = 1
units_of Bytes4096 = 8

-- how many bytes the blocks of a command have
abbrev pub data_len : Namespace → BlockCommand → ℕ
data_len n c = c.blocks * bytes_of n.block_size

abbrev pub extent_of : Namespace → BlockCommand → Extent
extent_of n c = record { disk = n.disk; first = c.first * units_of n.block_size; units = c.blocks * units_of n.block_size }

-- the extent of a command whose blocks the namespace has
abbrev pub in_range : Namespace → BlockCommand → Result Extent Status
in_range n c = refuse (nat_lt n.blocks (c.first + c.blocks)) lba_out_of_range (Ok (extent_of n c))

-- .. of one that moves its data, which are at most 131,072 bytes
abbrev pub limited : Namespace → BlockCommand → Result Extent Status
limited n c = refuse (nat_lt 131072 (data_len n c)) invalid_field (in_range n c)
