-- The response to a command (TCP Transport 1.0, section 3.6; Base 2.0, section 3.3.3.2).
use Rattle.std.specs.Prelude.{ℕ, List, [], ◌∷◌, ◌++◌}
use Rattle.std.specs.Int.{w16, w64, to_le_bytes}
use Rattle.nvt_fields.specs.Status.{word_of}
use Rattle.nvt_fields.specs.declared.pdu_type.PduType.TheVariants as types
use Rattle.pdu_codec.specs.declared.capsule_resp.CapsuleResp.{CapsuleResp}
use Rattle.pdu_codec.specs.CommonHeader.{common_header}

-- the completion queue entry: result, SQHD, no SQID, CID, status
abbrev pub completion_entry : CapsuleResp → List ℕ
completion_entry r =
    to_le_bytes w64 r.result ++ to_le_bytes w16 r.sqhd ++ (0 ∷ 0 ∷ []) ++ to_le_bytes w16 r.cid ++ to_le_bytes w16 (word_of r.status)

abbrev pub capsule_resp : CapsuleResp → List ℕ
capsule_resp r = common_header types.CapsuleResp 0 24 0 24 ++ completion_entry r
