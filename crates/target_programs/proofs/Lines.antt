-- The lines of a script that is explained.
use Rattle.std.proofs.Common.{◌≡◌, ℕ, Bool, ◌+◌, List, ◌∷◌, take, drop, subst, sym, inr, Result, Ok, Err, IfErr}
use Rattle.config_text.specs.Lines.{lines_of}
use Rattle.std.specs.List.{All}
use Rattle.nvt_replay.proofs.ReplayLemmas.{malformed_at}
use Rattle.nvt_replay.specs.Replay.{EndsAtLine, EndsScript, IsFirstMalformed}
use Rattle.target_programs.specs.Explained.{FailsSo}
use Rattle.edit_lines.specs.StreamLine.{IsStreamLine}
use Rattle.edit_lines.specs.declared.fault.ReplayFault.{ReplayFault}
use Rattle.edit_lines.specs.declared.fault.ReplayFault.TheVariants as fault

-- where the lines before are of the script, a fault of the next one is that of all
pub ends_at : (has_failed : Bool) (f : ReplayFault) (all : List (List ℕ)) (n : ℕ) (line : List ℕ) (rest : List (List ℕ)) → drop n all ≡ line ∷ rest
    → All IsStreamLine (take n all) → EndsAtLine has_failed f line (n + 1) → EndsScript has_failed f all
ends_at has_failed (fault.EditLine m reply) all n line rest e before ends = absurd ends
ends_at has_failed (fault.StreamLine m) all n line rest e before ends =
    subst (IsFirstMalformed all) (sym ends.0) (malformed_at all n line rest e before ends.1)
ends_at has_failed fault.Memory all n line rest e before ends = tt
ends_at has_failed fault.Io all n line rest e before ends = ends
ends_at has_failed fault.Disks all n line rest e before ends = absurd ends

-- a fault of the script is one of the two
pub fails_so : (has_failed : Bool) (edits stream units : List ℕ) (r : Result (Unit {0}) ReplayFault) → IfErr r (λ f. EndsScript has_failed f (lines_of stream))
    → IfErr r (λ f. FailsSo f edits stream units)
fails_so has_failed edits stream units (Ok done) ends = tt
fails_so has_failed edits stream units (Err f) ends = inr (has_failed, ends)
