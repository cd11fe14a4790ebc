-- Ready to Transfer (TCP Transport 1.0, section 3.6).
use Rattle.std.specs.Prelude.{ℕ, List, [], ◌∷◌, ◌++◌}
use Rattle.std.specs.Int.{w16, w32, to_le_bytes}
use Rattle.nvt_fields.specs.declared.pdu_type.PduType.TheVariants as types
use Rattle.nvt_fields.specs.Field.{field_at}
use Rattle.pdu_codec.specs.declared.r2t.R2t.{R2t}
use Rattle.pdu_codec.specs.CommonHeader.{common_header}

-- what an R2T of these bytes asks for
abbrev pub r2t_of : List ℕ → R2t
r2t_of bytes = record {
  cccid = field_at 2 8 bytes;
  ttag = field_at 2 10 bytes;
  r2to = field_at 4 12 bytes;
  r2tl = field_at 4 16 bytes;
}

-- CCCID, TTAG, R2TO and R2TL, with reserved bytes after the last
abbrev pub r2t_fields : R2t → List ℕ
r2t_fields r =
    to_le_bytes w16 r.cccid ++ to_le_bytes w16 r.ttag ++ to_le_bytes w32 r.r2to ++ to_le_bytes w32 r.r2tl ++ (0 ∷ 0 ∷ 0 ∷ 0 ∷ [])

-- a PDU without data
abbrev pub r2t : R2t → List ℕ
r2t r = common_header types.R2t 0 24 0 24 ++ r2t_fields r
