-- What is told of hosts, in the output.
use Rattle.std.specs.Prelude.{ℕ, List, Option}
use Rattle.std.specs.Io.KnownBytes.{Appends}

-- what is known of the output grows by a text, of which this holds
abbrev pub Tells : Option (List ℕ) → Option (List ℕ) → (List ℕ → Type 0) → Type 0
Tells old new Is = (text : List ℕ) × Is text × Appends old new text
