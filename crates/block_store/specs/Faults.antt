-- The counts of a disk: of its failures, and of its reads that found other bytes than were written.
use Rattle.std.specs.Prelude.{◌≡◌, ◌≢◌, ◌<◌, ◌⊎◌, ℕ, List, Result, Ok, Err}

-- a call answers a fault exactly where it changed the count
abbrev pub Counts : {T E : Type 0} → Result T E → ℕ → ℕ → Type 0
Counts (Ok _) old new = new ≡ old
Counts (Err _) old new = new ≢ old

-- a read found the bytes that were wanted, and the count of strays is as it was; or it found others, and the
-- count rose
abbrev pub Strays : (found wanted : List ℕ) (old new : ℕ) → Type 0
Strays found wanted old new = ((found ≡ wanted) × (new ≡ old)) ⊎ ((found ≢ wanted) × (old < new))
