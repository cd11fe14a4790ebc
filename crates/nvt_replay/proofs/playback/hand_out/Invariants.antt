use Rattle.std.proofs.Common.{ℕ, List, length, Option}
use Rattle.std.specs.Io.KnownBytes.{Appends}
use Rattle.target_core.specs.Target.{TargetState}
use Rattle.nvt_replay.specs.CutOff.{HandsOutInPart}
use Rattle.nvt_replay.specs.Played.{HandsOut, Prints}
use Rattle.nvt_replay.proofs.playback.hand_out.Given as goal

abbrev pub decreases-loop-rest : goal.decreases-loop-rest
decreases-loop-rest g l = length l.rest

-- whatever the rest prints, it prints behind what came before it
abbrev pub invariant-loop-rest : goal.invariant-loop-rest
invariant-loop-rest g l = record {
  whole : (n : ℕ) (last : TargetState) (end : Option (List ℕ)) (text : List ℕ)
      → HandsOut n l.k l.rest l.connections text last → Appends (g.W.Write.contents l.out) end text
      → Prints (g.W.Write.contents l.initial.out) end (λ text. (m : ℕ) × HandsOut m l.k l.initial.rest l.initial.connections text last);
  part : (n : ℕ) (end : Option (List ℕ)) (text : List ℕ) → HandsOutInPart n l.k l.rest l.connections text
      → Appends (g.W.Write.contents l.out) end text
      → Prints (g.W.Write.contents l.initial.out) end (λ text. (m : ℕ) × HandsOutInPart m l.k l.initial.rest l.initial.connections text);
}
