-- A submission queue entry (Base 2.0, section 3.3.3.1), and what the commands of this project read of it.
use Rattle.std.specs.Prelude.{ℕ, ◌+◌, ◌*◌, ◌%◌, ◌^◌, nat_le, List, slice_index, slice_range}
use Rattle.nvt_fields.specs.Field.{field_at}
use Rattle.pdu_codec.specs.Sgl.{sgl_of}
use Rattle.pdu_codec.specs.declared.sgl.Sgl.{Sgl}
use Rattle.pdu_codec.specs.declared.command.Connect.{Connect}
use Rattle.pdu_codec.specs.declared.command.Property.{Property}
use Rattle.pdu_codec.specs.declared.command.GetLogPage.{GetLogPage}
use Rattle.pdu_codec.specs.declared.command.Identify.{Identify}
use Rattle.pdu_codec.specs.declared.command.Feature.{Feature}
use Rattle.pdu_codec.specs.declared.command.BlockCommand.{BlockCommand}

-- the entry of a capsule: what follows the common header in its 72 header bytes
abbrev pub entry_in : List ℕ → List ℕ
entry_in header = slice_range header 8 72

-- what it means depends on the queue, but for 7Fh: that is a Fabrics command on each
abbrev pub opcode_of : List ℕ → ℕ
opcode_of entry = slice_index entry 0

-- bits 1:0 of the flags: 0 where the command is not fused
abbrev pub fuse_of : List ℕ → ℕ
fuse_of entry = slice_index entry 1 % 4

-- the host chooses it: no two outstanding commands of a connection may have the same
abbrev pub cid_of : List ℕ → ℕ
cid_of entry = field_at 2 2 entry

-- a Fabrics command names no namespace: the first of these bytes is its type
abbrev pub nsid_of : List ℕ → ℕ
nsid_of entry = field_at 4 4 entry

-- the Fabrics command type, where the opcode is 7Fh
abbrev pub fctype_of : List ℕ → ℕ
fctype_of entry = slice_index entry 4

-- over Fabrics an SGL descriptor says where the data are, and never a PRP: PSDT is not looked at
abbrev pub sgl1_of : List ℕ → Sgl
sgl1_of entry = sgl_of (slice_range entry 24 40)

-- the offsets of two fields of a Connect, by which a result names them
abbrev pub qid_at : ℕ
qid_at = 42

abbrev pub sqsize_at : ℕ
sqsize_at = 44

-- Connect (Base 2.0, section 6.3)
abbrev pub connect_of : List ℕ → Connect
connect_of entry = record {
  recfmt = field_at 2 40 entry;
  qid = field_at 2 qid_at entry;
  sqsize = field_at 2 sqsize_at entry;
  cattr = slice_index entry 46;
  kato = field_at 4 48 entry;
}

-- Property Get and Property Set (Base 2.0, sections 6.5 and 6.6)
abbrev pub property_of : List ℕ → Property
property_of entry = record {
  attrib = slice_index entry 40;
  ofst = field_at 4 44 entry;
  value = field_at 8 48 entry;
}

-- Get Log Page (Base 2.0, section 5.16): NUMD, 0's based, in two halves
abbrev pub get_log_page_of : List ℕ → GetLogPage
get_log_page_of entry = record {
  lid = slice_index entry 40;
  lsp = slice_index entry 41 % 128;
  rae = nat_le 128 (slice_index entry 41);
  numd = field_at 2 42 entry + 2 ^ 16 * field_at 2 44 entry;
  offset = field_at 8 48 entry;
}

-- Identify (Base 2.0, section 5.17)
abbrev pub identify_of : List ℕ → Identify
identify_of entry = record { cns = slice_index entry 40; nsid = nsid_of entry }

-- Get Features and Set Features (Base 2.0, sections 5.15 and 5.27)
abbrev pub feature_of : List ℕ → Feature
feature_of entry = record {
  fid = slice_index entry 40;
  save = nat_le 128 (slice_index entry 43);
  value = field_at 4 44 entry;
}

-- Read, Write, Compare and Write Zeroes (NVM Command Set 1.0, section 3.2): the number of blocks is 0's based, and FUA
-- is bit 30 of CDW12
abbrev pub block_command_of : List ℕ → BlockCommand
block_command_of entry = record {
  first = field_at 8 40 entry;
  blocks = field_at 2 48 entry + 1;
  fua = nat_le 64 (slice_index entry 51 % 128);
}
