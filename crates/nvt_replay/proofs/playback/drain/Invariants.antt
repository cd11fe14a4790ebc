use Rattle.std.specs.Io.KnownBytes.{Appends}
use Rattle.std.specs.Prelude.{nat_lt}
use Rattle.nvt_replay.specs.Played.{ArePrinted, lines_below}
use Rattle.nvt_replay.proofs.playback.drain.Given as goal

abbrev pub invariant-loop-k : goal.invariant-loop-k
invariant-loop-k g l = record {
  left : ArePrinted (λ j. nat_lt j l.k) l.initial.connections l.connections;
  printed : Appends (g.W.Write.contents l.initial.out) (g.W.Write.contents l.out) (lines_below l.k l.initial.connections);
}
