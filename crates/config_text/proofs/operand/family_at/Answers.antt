use Rattle.config_text.proofs.OperandLemmas.{no_other_family, operand_at}
use Rattle.config_text.proofs.operand.family_at.Goals as goal

pub unreachable-requires : goal.unreachable-requires
unreachable-requires c = no_other_family c.args.operands.now c.args.at c.result-1.given.0 c.requires c.in_default.not-Family

pub returns : goal.returns
returns c = (operand_at c.args.operands.now c.args.at c.result-1.given.0 _ _ c.requires c.in-Family.is).value_is
