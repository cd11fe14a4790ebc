-- What the header of a PDU with data says of it (TCP Transport 1.0, section 3.6).
use Rattle.std.specs.Prelude.{ℕ, ◌/◌, ◌%◌, ◌^◌, ◌==◌, List, slice_index}
use Rattle.nvt_fields.specs.Field.{field_at}
use Rattle.pdu_codec.specs.declared.data_head.DataHead.{DataHead}

-- LAST_PDU and SUCCESS are bits 2 and 3 of FLAGS
abbrev pub data_head_of : List ℕ → DataHead
data_head_of bytes = record {
  cccid = field_at 2 8 bytes;
  ttag = field_at 2 10 bytes;
  datao = field_at 4 12 bytes;
  datal = field_at 4 16 bytes;
  last_pdu = slice_index bytes 1 / 2 ^ 2 % 2 == 1;
  success = slice_index bytes 1 / 2 ^ 3 % 2 == 1;
}
