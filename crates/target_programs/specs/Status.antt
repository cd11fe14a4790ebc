-- The exit status that tells how a command ended.
use Rattle.std.specs.Prelude.{ℕ, Result, Ok, Err}

abbrev pub status_of : {E : Type 0} → Result (Unit {0}) E → ℕ
status_of (Ok done) = 0
status_of (Err fault) = 1
