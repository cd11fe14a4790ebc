use Rattle.std.proofs.Common.{rules}
use Rattle.nvt_fields.proofs.name.NqnPartialEq.eq.Goals as goal

pub returns : goal.returns
returns c = search rules
