-- Sets of connections: a bit for each number.
use Rattle.std.specs.Prelude.{◌≡◌, ◌<◌, ◌≤◌, ℕ, Bool, true, false, ◌||◌, ◌==◌, if◌then◌else◌}
use Rattle.std.specs.Int.{bit_at}

abbrev pub is_in : ℕ → ℕ → Bool
is_in bits k = bit_at bits k == 1

-- one is put in, or taken out
abbrev pub SetsBit : ℕ → Bool → ℕ → ℕ → Type 0
SetsBit k there old new = (j : ℕ) → is_in new j ≡ (if j == k then there else is_in old j)

-- those of another set are put in
abbrev pub Joins : ℕ → ℕ → ℕ → Type 0
Joins other old new = (j : ℕ) → is_in new j ≡ (is_in old j || is_in other j)

-- the least one that is no less than this
pub record IsFirst (least k bits : ℕ) : Type 0 where
  pub within : k < 64
  pub behind : least ≤ k
  pub there : is_in bits k ≡ true
  pub none : (j : ℕ) → least ≤ j → j < k → is_in bits j ≡ false
