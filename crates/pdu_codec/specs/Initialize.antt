-- The PDUs that set a connection up (TCP Transport 1.0, section 3.6).
use Rattle.std.specs.Prelude.{ℕ, List, [], ◌∷◌, ◌++◌, slice_index, replicate}
use Rattle.std.specs.Int.{w16, w32, to_le_bytes}
use Rattle.nvt_fields.specs.Field.{field_at}
use Rattle.nvt_fields.specs.declared.pdu_type.PduType.TheVariants as types
use Rattle.pdu_codec.specs.declared.initialize.IcReq.{IcReq}
use Rattle.pdu_codec.specs.declared.initialize.IcResp.{IcResp}
use Rattle.pdu_codec.specs.CommonHeader.{common_header}

-- the offsets of two fields of an ICReq, by which a termination names them
abbrev pub pfv_at : ℕ
pfv_at = 8

abbrev pub hpda_at : ℕ
hpda_at = 10

-- what an ICReq of these bytes asks for
abbrev pub ic_req_of : List ℕ → IcReq
ic_req_of bytes = record {
  pfv = field_at 2 pfv_at bytes;
  hpda = slice_index bytes hpda_at;
  dgst = slice_index bytes 11;
  maxr2t = field_at 4 12 bytes;
}

-- what an ICReq says after its common header, before 112 reserved bytes
abbrev pub ic_req_fields : IcReq → List ℕ
ic_req_fields r = to_le_bytes w16 r.pfv ++ (r.hpda ∷ r.dgst ∷ []) ++ to_le_bytes w32 r.maxr2t

abbrev pub ic_req : IcReq → List ℕ
ic_req r = common_header types.IcReq 0 128 0 128 ++ ic_req_fields r ++ replicate 112 0

-- what an ICResp of these bytes answers
abbrev pub ic_resp_of : List ℕ → IcResp
ic_resp_of bytes = record {
  pfv = field_at 2 8 bytes;
  cpda = slice_index bytes 10;
  dgst = slice_index bytes 11;
  maxh2cdata = field_at 4 12 bytes;
}

-- what an ICResp says after its common header, before 112 reserved bytes
abbrev pub ic_resp_fields : IcResp → List ℕ
ic_resp_fields r = to_le_bytes w16 r.pfv ++ (r.cpda ∷ r.dgst ∷ []) ++ to_le_bytes w32 r.maxh2cdata

abbrev pub ic_resp : IcResp → List ℕ
ic_resp r = common_header types.IcResp 0 128 0 128 ++ ic_resp_fields r ++ replicate 112 0
