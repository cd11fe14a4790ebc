-- What a reader of a stream has read of its PDUs (TCP Transport 1.0, section 3.6).
use Rattle.std.specs.Prelude.{ℕ, ◌+◌, ◌-◌, ◌<◌, ◌≤◌, ◌≡◌, Bool, true, false, max, min, nat_le, List, [], ◌∷◌, ◌++◌, length, take, if◌then◌else◌}
use Rattle.nvt_fields.specs.Field.{field_at}

-- How long the PDU is that begins like that: PLEN of its common header, or the header's 8 bytes where that is less.
unfoldable pub pdu_len : List ℕ → ℕ
pdu_len bytes = max (field_at 4 4 bytes) 8

-- a whole PDU, and nothing behind it
abbrev pub IsPdu : List ℕ → Type 0
IsPdu bytes = length bytes ≡ pdu_len bytes

-- whole PDUs, one behind another
pub data ArePdus : List ℕ → Type 0 where
  none : ArePdus []
  behind : {before : List ℕ} (pdu : List ℕ) → ArePdus before → IsPdu pdu → ArePdus (before ++ pdu)

-- How many bytes of the PDU under way came, and the first of them, of which `most` are kept. Where none is under way,
-- it is the last one.
pub record Reading : Type 0 where
  pub most : ℕ
  pub came : ℕ
  pub front : List ℕ

-- The stream is whole PDUs, one behind another, and then the bytes of the PDU under way, or of the last whole one. The
-- reader has their number, and the first of them.
pub record HasRead (r : Reading) (stream : List ℕ) : Type 0 where
  pub before : List ℕ
  pub under_way : List ℕ
  pub split : before ++ under_way ≡ stream
  pub are_pdus : ArePdus before
  pub within : length under_way ≤ pdu_len under_way
  pub came : r.came ≡ length under_way
  pub front : r.front ≡ take r.most under_way

-- the header is kept, and the PDU under way goes at most to its end
pub record IsInOrder (r : Reading) : Type 0 where
  pub most : 24 ≤ r.most
  pub front : length r.front ≡ min r.came r.most
  pub within : r.came ≤ pdu_len r.front

abbrev pub at_first : ℕ → Reading
at_first most = record { most = most; came = 0; front = [] }

-- PLEN says where a PDU ends, so that none is whole before its common header came
abbrev pub is_whole : Reading → Bool
is_whole r = nat_le (pdu_len r.front) r.came

-- as many of these bytes behind those before as there is room for
abbrev pub kept : ℕ → List ℕ → List ℕ → List ℕ
kept most front bytes = front ++ take (most - length front) bytes

-- after more bytes of the PDU under way
abbrev pub with_bytes : List ℕ → Reading → Reading
with_bytes bytes r = record { most = r.most; came = r.came + length bytes; front = kept r.most r.front bytes }

-- the PDU that the next byte belongs to
abbrev pub next_pdu : Reading → Reading
next_pdu r = if is_whole r then at_first r.most else r

abbrev pub read_on : Reading → List ℕ → Reading
read_on r [] = r
read_on r (b ∷ bytes) = read_on (with_bytes (b ∷ []) (next_pdu r)) bytes

-- It read so many of the bytes, at least one where there is one: those up to the end of the PDU that the first of them
-- belongs to, or all.
pub record ReadsOn (old : Reading) (bytes : List ℕ) (count : ℕ) (new : Reading) : Type 0 where
  pub within : count ≤ length bytes
  pub some : 0 < length bytes → 0 < count
  pub after : new ≡ read_on old (take count bytes)
  pub not_before : (k : ℕ) → 0 < k → k < count → is_whole (read_on old (take k bytes)) ≡ false
  pub to_end : count < length bytes → is_whole new ≡ true
