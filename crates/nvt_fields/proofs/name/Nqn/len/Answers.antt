use Rattle.std.proofs.Common.{rules}
use Rattle.nvt_fields.proofs.name.Nqn.len.Goals as goal

pub returns-clause-value : goal.returns-clause-value
returns-clause-value c = search rules
