use Rattle.std.proofs.Common.{◌≡◌, ◌≤◌, take}
use Rattle.host_program.specs.Lines.{without_padding}
use Rattle.host_program.proofs.lines.without_padding.Given as goal

-- the text of the bytes so far
abbrev pub invariant-loop-at : goal.invariant-loop-at
invariant-loop-at l = record {
  within : l.end ≤ l.at;
  text : take l.end l.field ≡ without_padding (take l.at l.field);
}
