-- What a host writes is what its readers read.
use Rattle.std.specs.Prelude.{◌≡◌, ℕ, ◌+◌, ◌*◌, ◌%◌, ◌^◌, ◌<◌, ◌≤◌, false, List, length, take, drop, slice_index}
use Rattle.nvt_fields.specs.Field.{field_at, padded}
use Rattle.pdu_codec.specs.declared.command.Connect.{Connect}
use Rattle.pdu_codec.specs.declared.data_head.DataHead.{DataHead}
use Rattle.pdu_codec.specs.declared.initialize.IcReq.{IcReq}
use Rattle.pdu_codec.specs.declared.sqe_fields.SqeFields.{SqeFields}
use Rattle.pdu_codec.specs.CapsuleCmd.{capsule_cmd}
use Rattle.pdu_codec.specs.ConnectData.{connect_data, hostid_of, cntlid_of, subnqn_of, hostnqn_of}
use Rattle.pdu_codec.specs.DataHead.{data_head_of}
use Rattle.pdu_codec.specs.H2cData.{Sent, h2c_data}
use Rattle.pdu_codec.specs.Initialize.{ic_req, ic_req_of}
use Rattle.pdu_codec.specs.Sqe.{entry_in, opcode_of, fuse_of, cid_of, nsid_of, fctype_of, sgl1_of, connect_of}
use Rattle.pdu_codec.specs.SqeFields.{connect_dwords, sqe_entry, sgl_len, sgl_named}
use Rattle.pdu_codec.specs.TermReq.{h2c_term_req}

-- ---- the PDUs without data

pub record IsRequestOf (r : IcReq) (bytes : List ℕ) : Type 0 where
  pub request : ic_req_of bytes ≡ r
  pub len : length bytes ≡ 128
  pub plen : field_at 4 4 bytes ≡ 128

abbrev pub RequestsAreReadBack : Type 0
RequestsAreReadBack = (r : IcReq) → r.pfv < 2 ^ 16 → r.maxr2t < 2 ^ 32 → IsRequestOf r (ic_req r)

-- a termination request, and the header in error behind its own
pub record IsTerminationOf (fes fei : ℕ) (head bytes : List ℕ) : Type 0 where
  pub status : field_at 2 8 bytes ≡ fes
  pub information : field_at 4 10 bytes ≡ fei
  pub plen : field_at 4 4 bytes ≡ length bytes
  pub behind : drop 24 bytes ≡ head

abbrev pub TerminationsAreReadBack : Type 0
TerminationsAreReadBack =
    (fes fei : ℕ) (head : List ℕ) → fes < 2 ^ 16 → fei < 2 ^ 32 → 24 + length head < 2 ^ 32
    → IsTerminationOf fes fei head (h2c_term_req fes fei head)

-- ---- commands

-- each field is a number of as many bytes as it has
pub record FitsEntry (s : SqeFields) : Type 0 where
  pub cid : s.cid < 2 ^ 16
  pub nsid : s.nsid < 2 ^ 32
  pub sgl1 : sgl_len s.sgl1 < 2 ^ 32
  pub cdw : (k : ℕ) → slice_index s.cdw k < 2 ^ 32

pub record IsEntryOf (s : SqeFields) (entry : List ℕ) : Type 0 where
  pub len : length entry ≡ 64
  pub opcode : opcode_of entry ≡ s.opcode
  pub fuse : fuse_of entry ≡ 0
  pub cid : cid_of entry ≡ s.cid
  pub nsid : nsid_of entry ≡ s.nsid
  pub fctype : fctype_of entry ≡ s.nsid % 2 ^ 8
  pub sgl1 : sgl1_of entry ≡ sgl_named s.sgl1
  pub cdw10 : field_at 4 40 entry ≡ slice_index s.cdw 0
  pub cdw11 : field_at 4 44 entry ≡ slice_index s.cdw 1
  pub cdw12 : field_at 4 48 entry ≡ slice_index s.cdw 2
  pub cdw13 : field_at 4 52 entry ≡ slice_index s.cdw 3
  pub cdw14 : field_at 4 56 entry ≡ slice_index s.cdw 4
  pub cdw15 : field_at 4 60 entry ≡ slice_index s.cdw 5

pub record FitsConnect (c : Connect) : Type 0 where
  pub recfmt : c.recfmt < 2 ^ 16
  pub qid : c.qid < 2 ^ 16
  pub sqsize : c.sqsize < 2 ^ 16
  pub cattr : c.cattr < 2 ^ 8
  pub kato : c.kato < 2 ^ 32

abbrev pub EntriesAreReadBack : Type 0
EntriesAreReadBack = (s : SqeFields) → FitsEntry s → IsEntryOf s (sqe_entry s)

-- a Connect by its dwords
abbrev pub ConnectsAreReadBack : Type 0
ConnectsAreReadBack =
    (c : Connect) (s : SqeFields) → FitsConnect c → s.cdw ≡ connect_dwords c → connect_of (sqe_entry s) ≡ c

-- a capsule: its entry, its length, and if it carries data, that at PDO, a multiple of the alignment
pub record IsCapsuleOf (sqe : SqeFields) (cpda : ℕ) (payload bytes : List ℕ) : Type 0 where
  pub entry : entry_in (take 72 bytes) ≡ sqe_entry sqe
  pub plen : field_at 4 4 bytes ≡ length bytes
  pub bare : length payload ≡ 0 → length bytes ≡ 72
  pub placed : 0 < length payload → drop (slice_index bytes 3) bytes ≡ payload
  pub aligned : 0 < length payload → slice_index bytes 3 % ((cpda + 1) * 4) ≡ 0
  pub behind : 0 < length payload → 72 ≤ slice_index bytes 3
  pub nearest : 0 < length payload → slice_index bytes 3 < 72 + (cpda + 1) * 4

abbrev pub CapsulesAreReadBack : Type 0
CapsulesAreReadBack =
    (sqe : SqeFields) (cpda : ℕ) (payload : List ℕ) → cpda ≤ 31 → length payload + 200 < 2 ^ 32
    → IsCapsuleOf sqe cpda payload (capsule_cmd sqe cpda payload)

-- ---- data

-- what the header of an H2CData says
abbrev pub head_sent : Sent → DataHead
head_sent s = record {
  cccid = s.cccid;
  ttag = s.ttag;
  datao = s.offset;
  datal = length s.payload;
  last_pdu = s.last;
  success = false;
}

-- an H2CData: its header, its length, and its data at PDO, a multiple of the alignment
pub record IsDataOf (s : Sent) (bytes : List ℕ) : Type 0 where
  pub head : data_head_of (take 24 bytes) ≡ head_sent s
  pub plen : field_at 4 4 bytes ≡ length bytes
  pub datal : length bytes ≡ slice_index bytes 3 + length s.payload
  pub placed : drop (slice_index bytes 3) bytes ≡ s.payload
  pub aligned : slice_index bytes 3 % ((s.cpda + 1) * 4) ≡ 0
  pub behind : 24 ≤ slice_index bytes 3
  pub nearest : slice_index bytes 3 < 24 + (s.cpda + 1) * 4

pub record FitsData (s : Sent) : Type 0 where
  pub cccid : s.cccid < 2 ^ 16
  pub ttag : s.ttag < 2 ^ 16
  pub offset : s.offset < 2 ^ 32
  pub cpda : s.cpda ≤ 31
  pub len : length s.payload + 152 < 2 ^ 32

abbrev pub DataAreReadBack : Type 0
DataAreReadBack = (s : Sent) → FitsData s → IsDataOf s (h2c_data s)

-- ---- the data of a Connect

pub record IsConnectDataOf (hostid : List ℕ) (cntlid : ℕ) (subnqn hostnqn bytes : List ℕ) : Type 0 where
  pub len : length bytes ≡ 1024
  pub host : hostid_of bytes ≡ hostid
  pub controller : cntlid_of bytes ≡ cntlid
  pub subsystem_name : subnqn_of bytes ≡ padded 256 0 subnqn
  pub host_name : hostnqn_of bytes ≡ padded 256 0 hostnqn

abbrev pub ConnectDataAreReadBack : Type 0
ConnectDataAreReadBack =
    (hostid : List ℕ) (cntlid : ℕ) (subnqn hostnqn : List ℕ) → length hostid ≡ 16 → cntlid < 2 ^ 16 → length subnqn ≤ 256 → length hostnqn ≤ 256
    → IsConnectDataOf hostid cntlid subnqn hostnqn (connect_data hostid cntlid subnqn hostnqn)
