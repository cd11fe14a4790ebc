-- The eight bytes that each PDU begins with (TCP Transport 1.0, section 3.6).
use Rattle.std.specs.Prelude.{ℕ, List, ◌∷◌}
use Rattle.std.specs.Int.{w32, to_le_bytes}
use Rattle.nvt_fields.specs.declared.pdu_type.PduType.{PduType}
use Rattle.nvt_fields.specs.PduType.{code_of}

-- type, FLAGS, HLEN, PDO, and PLEN in four bytes
abbrev pub common_header : PduType → ℕ → ℕ → ℕ → ℕ → List ℕ
common_header type flags hlen pdo plen = code_of type ∷ flags ∷ hlen ∷ pdo ∷ to_le_bytes w32 plen
