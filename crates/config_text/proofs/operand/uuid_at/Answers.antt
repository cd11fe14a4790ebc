use Rattle.config_text.proofs.OperandLemmas.{no_other_uuid, operand_at}
use Rattle.config_text.proofs.operand.uuid_at.Goals as goal

pub unreachable-requires : goal.unreachable-requires
unreachable-requires c = no_other_uuid c.args.operands.now c.args.at c.result-1.given.0 c.requires c.in_default.not-Uuid

pub returns : goal.returns
returns c = (operand_at c.args.operands.now c.args.at c.result-1.given.0 _ _ c.requires c.in-Uuid.is).value_is
