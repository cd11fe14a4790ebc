-- For how long no socket is looked at while replies are joined.
use Rattle.std.specs.Prelude.{◌≡◌, ◌<◌, ◌≤◌, ◌⊎◌, ℕ, ◌+◌, ◌*◌, Bool, true, false, min, if◌then◌else◌}
use Rattle.nvt_ports.specs.declared.looks.Looks.{Looks}

-- so many calls passed, in which so many bytes were taken, and so many may pass
pub record Counts (calls bytes most : ℕ) (looks : Looks) : Type 0 where
  pub passed : looks.passed ≡ calls
  pub taken : looks.taken ≡ bytes
  pub span : looks.span ≡ most

-- A call looks at no socket only where replies are joined, fewer calls than may passed, and with the bytes taken since the
-- call before fewer than 196,608 were taken in such calls; then it is counted. Each other call looks, and the count begins
-- anew.
abbrev pub Passes : Bool → ℕ → Bool → Looks → Looks → Type 0
Passes joins taken true old new = (joins ≡ true) × (old.passed < old.span) × (old.taken + taken < 196608)
    × Counts (old.passed + 1) (old.taken + taken) old.span new
Passes joins taken false old new = ((joins ≡ false) ⊎ ((old.span ≤ old.passed) ⊎ (196608 ≤ old.taken + taken)))
    × Counts 0 0 old.span new

abbrev pub span_after : Bool → ℕ → ℕ
span_after found span = if found then 0 else min (span * 2 + 1) 31
