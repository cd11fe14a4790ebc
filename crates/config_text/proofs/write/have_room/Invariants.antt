use Rattle.std.proofs.Common.{◌≡◌, drop, length, nat_le}
use Rattle.config_text.specs.Operand.{values}
use Rattle.config_text.specs.Output.{spaced}
use Rattle.config_text.proofs.write.have_room.Given as goal

abbrev pub invariant-loop-operand : goal.invariant-loop-operand
invariant-loop-operand l =
    nat_le (length (spaced (values (drop l.operand-index l.operands)))) l.left ≡ nat_le (length (spaced (values l.operands))) l.room
