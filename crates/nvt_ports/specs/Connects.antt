-- When the bytes that a target sent on a connection show that a Connect succeeded.
use Rattle.std.specs.Prelude.{ℕ, ◌+◌, ◌*◌, ◌≤◌, ◌≡◌, ◌==◌, ◌&&◌, Bool, true, List, length, drop, slice_index}

-- PLEN of the common header that stands in front
unfoldable pub plen_of : List ℕ → ℕ
plen_of bytes = slice_index bytes 4 + 256 * slice_index bytes 5 + 65536 * slice_index bytes 6
    + 16777216 * slice_index bytes 7

-- a whole PDU stands in front: its PLEN is at least that of its common header, and so many bytes came
pub record BeginsWithPdu (bytes : List ℕ) : Type 0 where
  pub has_header : 8 ≤ plen_of bytes
  pub is_whole : plen_of bytes ≤ length bytes

-- the PDU in front is a CapsuleResp, of type 05h and 24 bytes, whose last two bytes, the status word, say success
abbrev pub is_success : List ℕ → Bool
is_success bytes = plen_of bytes == 24 && slice_index bytes 0 == 5 && slice_index bytes 22 == 0
    && slice_index bytes 23 == 0

-- The first CapsuleResp that says success is the answer to a Connect: each command before is refused. Behind a PDU
-- whose PLEN is less than 8 nothing is shown.
pub data ShowsConnect : List ℕ → Type 0 where
  at_first : {bytes : List ℕ} → BeginsWithPdu bytes → is_success bytes ≡ true → ShowsConnect bytes
  later : {bytes : List ℕ} → BeginsWithPdu bytes → ShowsConnect (drop (plen_of bytes) bytes) → ShowsConnect bytes
