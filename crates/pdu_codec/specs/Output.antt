-- What a writer leaves of the buffer that it appends to.
use Rattle.std.specs.Prelude.{◌≡◌, ℕ, ◌+◌, ◌<◌, ◌≤◌, List, ◌++◌, length, Result, Ok, Err}
use Rattle.bytes.specs.Filled.{Filled}
use Rattle.pdu_codec.specs.declared.append.Full.{Full}

-- The bytes stand at the end, in what was spare room. Only where that is too small is the buffer full,
-- and as it was.
abbrev pub AppendsOrFull : Filled → Filled → List ℕ → Result (Unit {0}) Full → Type 0
AppendsOrFull old new bytes (Ok done) =
    (length bytes ≤ old.spare) × (new.items ≡ old.items ++ bytes) × (new.spare + length bytes ≡ old.spare)
AppendsOrFull old new bytes (Err full) = (old.spare < length bytes) × (new ≡ old)

-- The same, where as many bytes of spare room as those of a tail have to be left.
abbrev pub AppendsBeforeOrFull : Filled → Filled → List ℕ → ℕ → Result (Unit {0}) Full → Type 0
AppendsBeforeOrFull old new bytes tail_len (Ok done) =
    (length bytes + tail_len ≤ old.spare) × (new.items ≡ old.items ++ bytes) × (new.spare + length bytes ≡ old.spare)
AppendsBeforeOrFull old new bytes tail_len (Err full) = (old.spare < length bytes + tail_len) × (new ≡ old)
