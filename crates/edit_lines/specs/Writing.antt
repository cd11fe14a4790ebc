-- What the writes of a text come to.
use Rattle.std.specs.Prelude.{◌≡◌, ◌≢◌, ℕ, List, Option, Result, Ok, Err}
use Rattle.std.specs.Io.{StartsWith}
use Rattle.std.specs.Io.KnownBytes.{Appends}
use Rattle.std.specs.IoError.{error_kind}
use Rattle.std.specs.declared.io.Error.{Error}
use Rattle.std.specs.declared.io.ErrorKind.TheVariants.{Interrupted}

-- a write took this many bytes, or none where it is to be tried again
abbrev pub Took : Result ℕ Error → ℕ → Type 0
Took (Ok n) taken = taken ≡ n
Took (Err error) taken = (taken ≡ 0) × (error_kind error ≡ Interrupted)

-- a write failed: it took no byte, or its error is no interruption
abbrev pub IsFailed : Result ℕ Error → Type 0
IsFailed (Ok n) = n ≡ 0
IsFailed (Err error) = error_kind error ≢ Interrupted

-- a writer's known bytes grew by a beginning of this text
abbrev pub AppendsFront : Option (List ℕ) → Option (List ℕ) → List ℕ → Type 0
AppendsFront old new text = (front : List ℕ) × Appends old new front × StartsWith text front
