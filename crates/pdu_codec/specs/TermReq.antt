-- Termination requests (TCP Transport 1.0, section 3.6).
use Rattle.std.specs.Prelude.{ℕ, ◌+◌, List, ◌++◌, length, replicate}
use Rattle.std.specs.Int.{w16, w32, to_le_bytes}
use Rattle.nvt_fields.specs.declared.pdu_type.PduType.TheVariants as types
use Rattle.pdu_codec.specs.CommonHeader.{common_header}

-- FES and FEI
abbrev pub term_fields : ℕ → ℕ → List ℕ
term_fields fes fei = to_le_bytes w16 fes ++ to_le_bytes w32 fei

-- A request of the controller: FES, FEI, ten reserved bytes, and the header of the PDU in error, or
-- its first bytes.
abbrev pub c2h_term_req : ℕ → ℕ → List ℕ → List ℕ
c2h_term_req fes fei head =
    common_header types.C2hTermReq 0 24 0 (24 + length head) ++ term_fields fes fei ++ replicate 10 0 ++ head

-- The same of the host.
abbrev pub h2c_term_req : ℕ → ℕ → List ℕ → List ℕ
h2c_term_req fes fei head =
    common_header types.H2cTermReq 0 24 0 (24 + length head) ++ term_fields fes fei ++ replicate 10 0 ++ head
