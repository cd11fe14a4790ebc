-- A command that a host submits, and how its data move.
use Rattle.std.specs.Prelude.{ℕ, nat_lt, ◌==◌, List, [], length, if◌then◌else◌}
use Rattle.pdu_codec.specs.declared.sqe_fields.DataSgl.{DataSgl}
use Rattle.pdu_codec.specs.declared.sqe_fields.DataSgl.TheVariants as sgl
use Rattle.host_driver.specs.declared.command.Data.{Data}
use Rattle.host_driver.specs.declared.command.Data.TheVariants.{InCapsule, Requested, Wanted}

-- a command, the data to send, and the number of bytes that are wanted
pub record Command : Type 0 where
  pub opcode : ℕ
  pub nsid : ℕ
  pub cdw : List ℕ
  pub out : List ℕ
  pub into : ℕ

-- data to send go in the capsule up to that many bytes, all longer data as they are asked for
abbrev pub data_by : ℕ → ℕ → ℕ → Data
data_by in_capsule out into =
    if out == 0 then Wanted into else
    if nat_lt in_capsule out then Requested out else
    InCapsule out

-- data go one way: a command that sends any wants none back
abbrev pub data_of : ℕ → Command → Data
data_of in_capsule c = data_by in_capsule (length c.out) c.into

-- data in the capsule are named by their offset in it, all others by a transport data block, whichever way they go
abbrev pub descriptor_of : Data → DataSgl
descriptor_of (InCapsule len) = sgl.InCapsule len
descriptor_of (Requested len) = sgl.Transport len
descriptor_of (Wanted len) = sgl.Transport len

-- the data in the capsule
abbrev pub carried_by : Data → List ℕ → List ℕ
carried_by (InCapsule len) out = out
carried_by (Requested len) out = []
carried_by (Wanted len) out = []
