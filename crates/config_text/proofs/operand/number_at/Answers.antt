use Rattle.config_text.proofs.OperandLemmas.{no_other_number, operand_at}
use Rattle.config_text.proofs.operand.number_at.Goals as goal

pub unreachable-requires : goal.unreachable-requires
unreachable-requires c = no_other_number c.args.operands.now c.args.at c.result-1.given.0 c.requires c.in_default.not-Number

pub returns : goal.returns
returns c = (operand_at c.args.operands.now c.args.at c.result-1.given.0 _ _ c.requires c.in-Number.is).value_is
