use Rattle.std.proofs.Common.{rules}
use Rattle.nvt_fields.proofs.field.write_zeroed.Goals as goal

pub returns : goal.returns
returns c = search rules
