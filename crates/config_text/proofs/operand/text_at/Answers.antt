use Rattle.config_text.proofs.OperandLemmas.{no_other_text, operand_at}
use Rattle.config_text.proofs.operand.text_at.Goals as goal

pub unreachable-requires : goal.unreachable-requires
unreachable-requires c = no_other_text c.args.operands.now c.args.at c.result-1.given.0 c.requires c.in_default.not-Text

pub returns : goal.returns
returns c = (operand_at c.args.operands.now c.args.at c.result-1.given.0 _ _ c.requires c.in-Text.is).value_is
