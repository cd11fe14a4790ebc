use Rattle.std.proofs.Common.{◌≡◌, ◌+◌, ◌≤◌, ◌++◌, drop, length}
use Rattle.config_text.specs.Operand.{values}
use Rattle.config_text.specs.Output.{spaced}
use Rattle.config_text.proofs.write.append_operands.Given as goal

abbrev pub invariant-loop-operand : goal.invariant-loop-operand
invariant-loop-operand l = record {
  items : l.out.items ++ spaced (values (drop l.operand-index l.operands)) ≡ l.fn.out.items ++ spaced (values l.operands);
  room : length (spaced (values (drop l.operand-index l.operands))) ≤ l.out.spare;
  spare : l.out.spare + length (spaced (values l.operands)) ≡ l.fn.out.spare + length (spaced (values (drop l.operand-index l.operands)));
}
