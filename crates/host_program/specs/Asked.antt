-- What a command has to know before it asks for more.
use Rattle.std.specs.Prelude.{ℕ, ◌+◌, ◌*◌, ◌%◌, ◌==◌, List, Option, Some, None, slice_get, if◌then◌else◌}

-- LBADS, a power of 2: blocks of 512 bytes or of 4,096
abbrev pub power_of : ℕ → Option ℕ
power_of lbads = if lbads == 9 then Some 512 else if lbads == 12 then Some 4096 else None

-- the next look at a byte that is there
abbrev pub at_byte : Option ℕ → (ℕ → Option ℕ) → Option ℕ
at_byte None next = None
at_byte (Some b) next = next b

-- LBADS of the format that FLBAS names
abbrev pub block_len_of : List ℕ → Option ℕ
block_len_of namespace = at_byte (slice_get namespace 26)
    (λ flbas. at_byte (slice_get namespace (128 + 4 * (flbas % 16) + 2)) power_of)
