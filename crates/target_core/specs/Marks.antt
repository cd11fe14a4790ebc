-- Which connections of a target are known.
use Rattle.std.specs.Prelude.{◌≡◌, ℕ, Bool, false, ◌==◌, List, is_some, slice_index_or, if◌then◌else◌}
use Rattle.tables.specs.NumberTable.{place}
use Rattle.target_core.specs.Target.{TargetState}

-- these are the marks of the connections that are known
abbrev pub AreMarks : List Bool → TargetState → Type 0
AreMarks marks t = (k : ℕ) → slice_index_or marks k false ≡ is_some (place t.connections k)

-- one mark is set so
abbrev pub SetsMark : ℕ → Bool → List Bool → List Bool → Type 0
SetsMark k mark old new = (j : ℕ) → slice_index_or new j false ≡ (if j == k then mark else slice_index_or old j false)

-- the same connections are known
abbrev pub SameKnown : TargetState → TargetState → Type 0
SameKnown old new = (k : ℕ) → is_some (place new.connections k) ≡ is_some (place old.connections k)
