-- How many PDUs begin in the bytes of a stream, and how many bytes are read at a time.
use Rattle.std.specs.Prelude.{ℕ, ◌+◌, ◌-◌, ◌*◌, ◌/◌, ◌==◌, Bool, List, [], ◌∷◌, ◌&&◌, max, min, nat_le, nat_lt, slice_set, if◌then◌else◌}
use Rattle.std.specs.Int.{from_le_bytes, w32}
use Rattle.nvt_ports.specs.declared.portion.StreamWalk.{StreamWalk}

abbrev pub at_first : StreamWalk
at_first = record { place = 0; len = 0 ∷ 0 ∷ 0 ∷ 0 ∷ []; left = 0 }

-- The length of a PDU is bytes 4 to 7 of its header, the least first. One that is shorter than its header ends with it.
abbrev pub with_len : ℕ → StreamWalk → List ℕ
with_len b w = if nat_le 4 w.place && nat_lt w.place 8 then slice_set w.len (w.place - 4) b else w.len

-- behind a byte of a header
abbrev pub headed : ℕ → StreamWalk → StreamWalk
headed b w =
    if nat_lt w.place 7 then record { place = w.place + 1; len = with_len b w; left = w.left }
    else record { place = 0; len = with_len b w; left = from_le_bytes w32 (with_len b w) - 8 }

-- behind a byte
abbrev pub stepped : ℕ → StreamWalk → StreamWalk
stepped b w = if w.left == 0 then headed b w else record w { left = w.left - 1 }

abbrev pub walked : StreamWalk → List ℕ → StreamWalk
walked w [] = w
walked w (b ∷ bytes) = walked (stepped b w) bytes

-- a PDU begins with the next byte
abbrev pub begins : StreamWalk → Bool
begins w = (w.left == 0) && (w.place == 0)

abbrev pub begun_in : StreamWalk → List ℕ → ℕ
begun_in w [] = 0
begun_in w (b ∷ bytes) = (if begins w then 1 else 0) + begun_in (stepped b w) bytes

-- some 64 PDUs of the same length, twice the last portion at most, and 1,024 to 32,768 bytes
abbrev pub most_after : ℕ → ℕ → ℕ → ℕ
most_after len pdus most = max (min (min (if pdus == 0 then 32768 else len * 64 / pdus) (most * 2)) 32768) 1024
