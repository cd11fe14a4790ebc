-- What a watch for a Connect has seen of the bytes that were given.
use Rattle.std.specs.Prelude.{ℕ, ◌+◌, ◌<◌, ◌≡◌, ◌==◌, ◌&&◌, Bool, true, false, nat_le, min, List, length, drop, slice_index, slice_set, if◌then◌else◌}
use Rattle.nvt_ports.specs.declared.connect_watch.ConnectWatch.{ConnectWatch}
use Rattle.nvt_ports.specs.Connects.{BeginsWithPdu, ShowsConnect, is_success, plen_of}

-- the PDU under way has these bytes so far; the watch has their number and the first 24 of them
pub record IsWithin (w : ConnectWatch) (bytes : List ℕ) : Type 0 where
  pub place : w.place ≡ min (length bytes) 4294967295
  pub front_len : length w.front ≡ 24
  pub front : (i : ℕ) → i < 24 → i < length bytes → slice_index w.front i ≡ slice_index bytes i
  pub are_bytes : (i : ℕ) → slice_index w.front i < 256

-- the watch and the bytes that were given agree: a Connect was shown; or the bytes are whole PDUs that show none, and
-- then those of a PDU that is not whole
pub data HasSeen : ConnectWatch → List ℕ → Type 0 where
  connected : {w : ConnectWatch} {given : List ℕ} → w.is_connected ≡ true → ShowsConnect given → HasSeen w given
  within : {w : ConnectWatch} {given : List ℕ} → w.is_connected ≡ false → ¬ BeginsWithPdu given → IsWithin w given
      → HasSeen w given
  behind : {w : ConnectWatch} {given : List ℕ} → BeginsWithPdu given → is_success given ≡ false
      → HasSeen w (drop (plen_of given) given) → HasSeen w given

-- the watch after a byte more of the PDU under way
abbrev pub with_byte : ℕ → ConnectWatch → ConnectWatch
with_byte b w = record w { front = slice_set w.front w.place b; place = min (w.place + 1) 4294967295 }

abbrev pub behind_pdu : ConnectWatch → ConnectWatch
behind_pdu w = record w { place = 0; is_connected = is_success w.front }

abbrev pub is_at_end : ConnectWatch → Bool
is_at_end w = nat_le 8 w.place && w.place == plen_of w.front

abbrev pub watched : ConnectWatch → ConnectWatch
watched w = if is_at_end w then behind_pdu w else w
