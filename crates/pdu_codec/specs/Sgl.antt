-- A scatter gather list descriptor (Base 2.0, section 4.1.2; TCP Transport 1.0, section 3.6).
use Rattle.std.specs.Prelude.{ℕ, ◌==◌, List, slice_index, if◌then◌else◌}
use Rattle.nvt_fields.specs.Field.{field_at}
use Rattle.pdu_codec.specs.declared.sgl.Sgl.{Sgl}
use Rattle.pdu_codec.specs.declared.sgl.SglType.{SglType}
use Rattle.pdu_codec.specs.declared.sgl.SglType.TheVariants.{CapsuleOffset, Transport, Other}

-- type and subtype, in one byte
abbrev pub sgl_type_of : ℕ → SglType
sgl_type_of code = if code == 0x01 then CapsuleOffset else if code == 0x5A then Transport else Other

-- the descriptor in 16 bytes: address, length, three reserved bytes, type
abbrev pub sgl_of : List ℕ → Sgl
sgl_of bytes = record {
  address = field_at 8 0 bytes;
  len = field_at 4 8 bytes;
  sgl_type = sgl_type_of (slice_index bytes 15);
}
