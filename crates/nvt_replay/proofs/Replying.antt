-- What an edit that is made, or refused, prints.
use Rattle.std.proofs.Common.{◌≡◌, ℕ, List, ◌++◌, OnOk, Option, Result, Ok, Err, refl, inl, inr}
use Rattle.std.specs.Io.KnownBytes.{Appends}
use Rattle.std.proofs.KnownBytes.{Appends-trans}
use Rattle.target_core.specs.Target.{TargetState}
use Rattle.nvt_replay.specs.Played.{PlaysEdit, Prints, Drains}
use Rattle.edit_lines.specs.declared.reply.Reply.{Reply}
use Rattle.edit_lines.specs.Printed.{edit_made_line, reply_line}
use Rattle.edit_lines.specs.Line.{MakesLine, Refuses}

-- an edit that is made prints that it is, and then what the draining target prints
pub made_and_drained : {E : Type 0} (r : Result (Unit {0}) E) (line : List ℕ) (old mid new : TargetState) (a b c : Option (List ℕ)) → MakesLine line old mid → Appends a b edit_made_line
    → OnOk r (Prints b c (λ text. Drains mid text new)) → OnOk r (Prints a c (λ text. PlaysEdit line old text new))
made_and_drained (Ok done) line old mid new a b c makes made drained =
    (edit_made_line ++ drained.0, Appends-trans a b c edit_made_line drained.0 made drained.1, inl (mid, makes, drained.0, drained.2, refl))
made_and_drained (Err fault) line old mid new a b c makes made drained = tt

-- an edit that is refused prints the reply
pub refused_and_told : {E : Type 0} (r : Result (Unit {0}) E) (line : List ℕ) (old new : TargetState) (reply : Reply) (a b : Option (List ℕ)) → Refuses old.config line reply → new ≡ old
    → OnOk r (Appends a b (reply_line reply)) → OnOk r (Prints a b (λ text. PlaysEdit line old text new))
refused_and_told (Ok done) line old new reply a b refuses same told = (reply_line reply, told, inr (reply, refuses, refl, same))
refused_and_told (Err fault) line old new reply a b refuses same told = tt
