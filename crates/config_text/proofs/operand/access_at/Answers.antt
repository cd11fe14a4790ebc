use Rattle.config_text.proofs.OperandLemmas.{no_other_access, operand_at}
use Rattle.config_text.proofs.operand.access_at.Goals as goal

pub unreachable-requires : goal.unreachable-requires
unreachable-requires c = no_other_access c.args.operands.now c.args.at c.result-1.given.0 c.requires c.in_default.not-Access

pub returns : goal.returns
returns c = (operand_at c.args.operands.now c.args.at c.result-1.given.0 _ _ c.requires c.in-Access.is).value_is
