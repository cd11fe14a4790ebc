-- What is read of a stream of lines.
use Rattle.std.specs.Prelude.{◌≡◌, ◌≢◌, ◌⊎◌, ℕ, All, List, [], ◌∷◌, ◌++◌, length, Option}
use Rattle.std.specs.Io.KnownBytes.{Consumes, IsAtEnd}

-- behind a line its end was taken; or the stream has ended, or the line has as many bytes as one may
abbrev pub EndsBy : List ℕ → List ℕ → Option (List ℕ) → Type 0
EndsBy line ending new = (ending ≡ 10 ∷ []) ⊎ ((ending ≡ []) × (IsAtEnd new ⊎ (length line ≡ 4096)))

-- these bytes were taken of a stream, none of which ends a line, and then what ends it
pub record TakesLine (line : List ℕ) (old new : Option (List ℕ)) : Type 0 where
  pub one : All (λ byte. byte ≢ 10) line
  pub ending : List ℕ
  pub takes : Consumes old new (line ++ ending)
  pub ends : EndsBy line ending new

-- nothing was taken, since the stream has ended
pub record TakesNone (old new : Option (List ℕ)) : Type 0 where
  pub takes : Consumes old new []
  pub ends : IsAtEnd new
