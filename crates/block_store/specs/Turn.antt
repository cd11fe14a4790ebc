-- Which call of a disk fails or strays, where one is to do so.
use Rattle.std.specs.Prelude.{◌≡◌, ℕ, zero, suc, Bool, true, false, Option, Some, None, Result}
use Rattle.std.specs.Result.{is_err}
use Rattle.block_store.specs.Faults.{Counts}

-- how many calls pass before that one, after one more call; none once it has come
abbrev pub passes_after : Option ℕ → Option ℕ
passes_after None = None
passes_after (Some zero) = None
passes_after (Some (suc n)) = Some n

-- whether the next call is that one
abbrev pub is_due : Option ℕ → Bool
is_due None = false
is_due (Some zero) = true
is_due (Some (suc n)) = false

-- what such a disk counts of its own: that one call, once it has come
abbrev pub own_count : Option ℕ → ℕ
own_count None = 1
own_count (Some n) = 0

-- The call that is due fails, and does not reach the disk below; any other fails exactly where that
-- disk counts a fault.
pub record FailsInTurn {D T E : Type 0} (faults : D → ℕ) (passes : Option ℕ) (result : Result T E)
    (old new : D) : Type 0 where
  pub due : is_due passes ≡ true → is_err result ≡ true
  pub untouched : is_due passes ≡ true → new ≡ old
  pub passed : is_due passes ≡ false → Counts result (faults old) (faults new)
