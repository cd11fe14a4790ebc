-- What links tell.
use Rattle.std.specs.Prelude.{◌≡◌, ◌≢◌, ℕ, List, ◌++◌, Option, Result, Ok, Err, take}
use Rattle.std.specs.Option.{option_map}

-- all bytes that a link took to be sent, and all that it handed out, in their order
pub record Told : Type 0 where
  pub took : List ℕ
  pub handed_out : List ℕ

-- What contracts see of a link: what it tells, if it does; and a count that each call that fails changes, and no other
-- call does.
pub record LinkState : Type 0 where
  pub told : Option Told
  pub faults : ℕ

abbrev pub with_taken : List ℕ → Told → Told
with_taken bytes t = record { took = t.took ++ bytes; handed_out = t.handed_out }

abbrev pub with_handed_out : List ℕ → Told → Told
with_handed_out bytes t = record { took = t.took; handed_out = t.handed_out ++ bytes }

-- it took these bytes to be sent
pub record Takes (bytes : List ℕ) (old new : LinkState) : Type 0 where
  pub told : new.told ≡ option_map (with_taken bytes) old.told
  pub faults : new.faults ≡ old.faults

-- it handed these out
pub record HandsOut (bytes : List ℕ) (old new : LinkState) : Type 0 where
  pub told : new.told ≡ option_map (with_handed_out bytes) old.told
  pub faults : new.faults ≡ old.faults

-- it failed, and took and handed out nothing
pub record Fails (old new : LinkState) : Type 0 where
  pub told : new.told ≡ old.told
  pub faults : new.faults ≢ old.faults

-- what a call to send these bytes answers
abbrev pub SendAnswers : {E : Type 0} → List ℕ → Result ℕ E → LinkState → LinkState → Type 0
SendAnswers bytes (Ok n) old new = Takes (take n bytes) old new
SendAnswers bytes (Err fault) old new = Fails old new

-- .. and one to receive, with this in the buffer then
abbrev pub ReceiveAnswers : {E : Type 0} → List ℕ → Result ℕ E → LinkState → LinkState → Type 0
ReceiveAnswers buffer (Ok n) old new = HandsOut (take n buffer) old new
ReceiveAnswers buffer (Err fault) old new = Fails old new
