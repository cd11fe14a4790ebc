use Rattle.std.proofs.Common.{rules}
use Rattle.nvt_fields.proofs.name.Nqn.as_bytes.Goals as goal

pub returns : goal.returns
returns c = search rules
