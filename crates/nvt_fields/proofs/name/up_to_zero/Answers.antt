use Rattle.std.proofs.Common.{rules}
use Rattle.nvt_fields.proofs.name.up_to_zero.Goals as goal

pub returns : goal.returns
returns c = search rules
