use Rattle.std.proofs.Common.{rules}
use Rattle.nvt_fields.proofs.field.write_spaced.Goals as goal

pub returns : goal.returns
returns c = search rules
