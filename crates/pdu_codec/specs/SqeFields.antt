-- A submission queue entry as a host writes it (Base 2.0, sections 3.3.3.1 and 4.1.2).
use Rattle.std.specs.Prelude.{ℕ, ◌+◌, ◌*◌, ◌^◌, List, [], ◌∷◌, ◌++◌, slice_index, replicate}
use Rattle.std.specs.Int.{w16, w32, to_le_bytes}
use Rattle.pdu_codec.specs.declared.command.Connect.{Connect}
use Rattle.pdu_codec.specs.declared.sqe_fields.DataSgl.{DataSgl}
use Rattle.pdu_codec.specs.declared.sqe_fields.DataSgl.TheVariants.{NoData, InCapsule, Transport}
use Rattle.pdu_codec.specs.declared.sqe_fields.SqeFields.{SqeFields}
use Rattle.pdu_codec.specs.declared.sgl.Sgl.{Sgl}
use Rattle.pdu_codec.specs.declared.sgl.SglType.TheVariants as types

-- what its reader makes of the descriptor: no data are a block of length 0 that the transport moves
abbrev pub sgl_named : DataSgl → Sgl
sgl_named NoData = record { address = 0; len = 0; sgl_type = types.Transport }
sgl_named (InCapsule len) = record { address = 0; len = len; sgl_type = types.CapsuleOffset }
sgl_named (Transport len) = record { address = 0; len = len; sgl_type = types.Transport }

-- the length of the data, and the descriptor's type and subtype
abbrev pub sgl_len : DataSgl → ℕ
sgl_len NoData = 0
sgl_len (InCapsule len) = len
sgl_len (Transport len) = len

abbrev pub sgl_code : DataSgl → ℕ
sgl_code NoData = 0x5A
sgl_code (InCapsule len) = 0x01
sgl_code (Transport len) = 0x5A

-- a descriptor in 16 bytes: address 0, the length, three reserved bytes, type and subtype
abbrev pub block_descriptor : ℕ → ℕ → List ℕ
block_descriptor len code = replicate 8 0 ++ to_le_bytes w32 len ++ (0 ∷ 0 ∷ 0 ∷ code ∷ [])

abbrev pub data_descriptor : DataSgl → List ℕ
data_descriptor sgl = block_descriptor (sgl_len sgl) (sgl_code sgl)

-- opcode; flags, of which bits 7:6 say that an SGL describes the data; CID; NSID
abbrev pub command_head : SqeFields → List ℕ
command_head s = (s.opcode ∷ 0x40 ∷ []) ++ to_le_bytes w16 s.cid ++ to_le_bytes w32 s.nsid

-- command dwords 10 to 15
abbrev pub command_dwords : List ℕ → List ℕ
command_dwords cdw =
    to_le_bytes w32 (slice_index cdw 0) ++ to_le_bytes w32 (slice_index cdw 1) ++ to_le_bytes w32 (slice_index cdw 2)
    ++ to_le_bytes w32 (slice_index cdw 3) ++ to_le_bytes w32 (slice_index cdw 4) ++ to_le_bytes w32 (slice_index cdw 5)

-- the 64 bytes: between NSID and SGL1, CDW2 and CDW3 and the metadata pointer are 0
abbrev pub sqe_entry : SqeFields → List ℕ
sqe_entry s = command_head s ++ replicate 16 0 ++ data_descriptor s.sgl1 ++ command_dwords s.cdw

-- the dwords of a Connect (Base 2.0, section 6.3): RECFMT and QID, SQSIZE and CATTR, KATO, and three that are 0
abbrev pub connect_dwords : Connect → List ℕ
connect_dwords c = (c.recfmt + 2 ^ 16 * c.qid) ∷ (c.sqsize + 2 ^ 16 * c.cattr) ∷ c.kato ∷ 0 ∷ 0 ∷ 0 ∷ []
