use Rattle.std.proofs.Common.{◌≡◌, ◌≤◌, take, drop, length}
use Rattle.std.specs.List.{All}
use Rattle.config_text.specs.Lines.{lines_of}
use Rattle.nvt_replay.specs.Played.{PlaysAll, Prints}
use Rattle.edit_lines.specs.StreamLine.{IsStreamLine}
use Rattle.nvt_replay.proofs.playback.Playback.run.Given as goal

abbrev pub invariant-loop-line : goal.invariant-loop-line
invariant-loop-line g l = record {
  rest : drop l.number (lines_of l.stream) ≡ l.line-iterator;
  counted : l.number ≤ length (lines_of l.stream);
  before : All IsStreamLine (take l.number (lines_of l.stream));
  played : Prints (g.W.Write.contents l.initial.out) (g.W.Write.contents l.out)
      (λ text. PlaysAll (take l.number (lines_of l.stream)) l.initial.self.connections text l.self.connections);
}
