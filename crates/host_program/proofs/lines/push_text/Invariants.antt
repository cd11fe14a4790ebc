use Rattle.std.proofs.Common.{◌≡◌, ◌++◌, drop, map}
use Rattle.host_program.specs.Lines.{shown, text_of}
use Rattle.host_program.proofs.lines.push_text.Given as goal

-- the bytes that are left are missing
abbrev pub invariant-loop-byte : goal.invariant-loop-byte
invariant-loop-byte l = l.line.items ++ map shown (drop l.byte-index l.byte-items) ≡ l.fn.line.items ++ text_of l.fn.field
