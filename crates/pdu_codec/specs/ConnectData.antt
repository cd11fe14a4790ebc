-- The data of a Connect command, 1,024 bytes (Base 2.0, section 6.3).
use Rattle.std.specs.Prelude.{ℕ, ◌+◌, List, ◌++◌, slice_range, replicate}
use Rattle.std.specs.Int.{w16, to_le_bytes}
use Rattle.nvt_fields.specs.Field.{field_at, padded}

-- its length, and the offsets of its fields
abbrev pub connect_data_len : ℕ
connect_data_len = 1024

abbrev pub hostid_at : ℕ
hostid_at = 0

abbrev pub cntlid_at : ℕ
cntlid_at = 16

abbrev pub subnqn_at : ℕ
subnqn_at = 256

abbrev pub hostnqn_at : ℕ
hostnqn_at = 512

abbrev pub hostid_of : List ℕ → List ℕ
hostid_of bytes = slice_range bytes hostid_at (hostid_at + 16)

abbrev pub cntlid_of : List ℕ → ℕ
cntlid_of bytes = field_at 2 cntlid_at bytes

-- the fields of the names
abbrev pub subnqn_of : List ℕ → List ℕ
subnqn_of bytes = slice_range bytes subnqn_at (subnqn_at + 256)

abbrev pub hostnqn_of : List ℕ → List ℕ
hostnqn_of bytes = slice_range bytes hostnqn_at (hostnqn_at + 256)

-- what a host writes: HOSTID, CNTLID, and in their fields the names with zeros after them; all else is 0
abbrev pub connect_data : List ℕ → ℕ → List ℕ → List ℕ → List ℕ
connect_data hostid cntlid subnqn hostnqn =
    hostid ++ to_le_bytes w16 cntlid ++ replicate 238 0 ++ padded 256 0 subnqn ++ padded 256 0 hostnqn ++ replicate 256 0
