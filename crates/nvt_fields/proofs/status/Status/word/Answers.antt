use Rattle.std.proofs.Common.{rules}
use Rattle.nvt_fields.proofs.status.Status.word.Goals as goal

pub returns : goal.returns
returns c = search rules
