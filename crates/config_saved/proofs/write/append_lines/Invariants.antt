use Rattle.std.proofs.Common.{◌≡◌, ◌+◌, ◌++◌, length, take}
use Rattle.config_saved.specs.Text.{saved_text, text_of}
use Rattle.config_saved.proofs.write.append_lines.Given as goal

abbrev pub invariant-loop-left : goal.invariant-loop-left
invariant-loop-left l = record {
  lines : l.out.items ++ text_of l.left ≡ l.fn.out.items ++ saved_text l.config;
  front : take (length l.fn.out.items) l.out.items ≡ l.fn.out.items;
  capacity : length l.out.items + l.out.spare ≡ length l.fn.out.items + l.fn.out.spare;
}

abbrev pub decreases-loop-left : goal.decreases-loop-left
decreases-loop-left l = length l.left
