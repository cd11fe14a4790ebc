-- What the bytes of a PDU are (TCP Transport 1.0, section 3.6).
use Rattle.std.specs.Prelude.{ℕ, List, length, slice_index, slice_range, nat_lt, Option, Some, None, if◌then◌else◌}
use Rattle.nvt_fields.specs.Field.{field_at}
use Rattle.nvt_fields.specs.PduType.{type_of_code}
use Rattle.nvt_fields.specs.declared.pdu_type.PduType.{PduType}
use Rattle.nvt_fields.specs.declared.pdu_type.PduType.TheVariants as types
use Rattle.pdu_cut.specs.CommonHeader.{layout_of}
use Rattle.pdu_codec.specs.Initialize.{ic_req_of, ic_resp_of}
use Rattle.pdu_codec.specs.declared.termination.TermReq.{TermReq}
use Rattle.pdu_codec.specs.Cqe.{completion_in, completed_cid_of, sqhd_of, status_of, result_of}
use Rattle.pdu_codec.specs.DataHead.{data_head_of}
use Rattle.pdu_codec.specs.R2t.{r2t_of}
use Rattle.pdu_words.specs.declared.command.Command.{Command}
use Rattle.pdu_words.specs.declared.explanation.ResponseFields.{ResponseFields}
use Rattle.pdu_words.specs.declared.explanation.Explanation.{Explanation}
use Rattle.pdu_words.specs.declared.explanation.Explanation.TheVariants as explanation

-- the entry of a response of these bytes
abbrev pub entry_of : List ℕ → List ℕ
entry_of bytes = completion_in (slice_range bytes 0 24)

-- what it says
abbrev pub completion_of : List ℕ → ResponseFields
completion_of bytes = record {
  cid = completed_cid_of (entry_of bytes);
  sqhd = sqhd_of (entry_of bytes);
  status = status_of (entry_of bytes);
  result = result_of (entry_of bytes);
}

abbrev pub term_req_of : List ℕ → TermReq
term_req_of bytes = record { fes = field_at 2 8 bytes; fei = field_at 4 10 bytes }

-- by its type, for a PDU with its whole header; the CID of a capsule's command is in bytes 2 and 3 of its entry
abbrev pub explained : PduType → List ℕ → Option Command → Explanation
explained types.IcReq bytes command = explanation.IcReq (ic_req_of bytes)
explained types.IcResp bytes command = explanation.IcResp (ic_resp_of bytes)
explained types.H2cTermReq bytes command = explanation.H2cTermReq (term_req_of bytes)
explained types.C2hTermReq bytes command = explanation.C2hTermReq (term_req_of bytes)
explained types.CapsuleCmd bytes command = explanation.CapsuleCmd (field_at 2 10 bytes) command
explained types.CapsuleResp bytes command = explanation.CapsuleResp (completion_of bytes) command
explained types.H2cData bytes command = explanation.H2cData (data_head_of bytes) command
explained types.C2hData bytes command = explanation.C2hData (data_head_of bytes) command
explained types.R2t bytes command = explanation.R2t (r2t_of bytes) command

-- whether there is a whole header of that type
abbrev pub explained_as : Option PduType → List ℕ → Option Command → Explanation
explained_as None bytes command = explanation.NoPdu
explained_as (Some kind) bytes command =
    if nat_lt (length bytes) (layout_of kind).header_len then explanation.NoPdu else explained kind bytes command

-- the type that the bytes begin with, if they begin with one
abbrev pub type_at : List ℕ → Option PduType
type_at bytes = if nat_lt 0 (length bytes) then type_of_code (slice_index bytes 0) else None

abbrev pub explanation_of : List ℕ → Option Command → Explanation
explanation_of bytes command = explained_as (type_at bytes) bytes command
