-- The line that a held Write waits for.
use Rattle.std.specs.Prelude.{◌≡◌, ◌≢◌, ◌⊎◌, ℕ, All, List, [], ◌∷◌, ◌++◌, length, Option}
use Rattle.std.specs.Io.KnownBytes.{Consumes, IsAtEnd}

-- nothing was read, since nothing is left
pub record FindsEnd (old new : Option (List ℕ)) : Type 0 where
  pub takes : Consumes old new []
  pub ends : IsAtEnd new

-- behind a line its end was read; or nothing is left, or the line has as many bytes as are waited for
abbrev pub EndsBy : List ℕ → List ℕ → Option (List ℕ) → Type 0
EndsBy line ending new = (ending ≡ 10 ∷ []) ⊎ ((ending ≡ []) × (IsAtEnd new ⊎ (length line ≡ 1024)))

-- bytes were read none of which ends a line, and then what ends it
pub record PassesLine (old new : Option (List ℕ)) : Type 0 where
  pub line : List ℕ
  pub one : All (λ byte. byte ≢ 10) line
  pub ending : List ℕ
  pub takes : Consumes old new (line ++ ending)
  pub ends : EndsBy line ending new
