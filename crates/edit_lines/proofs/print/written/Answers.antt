use Rattle.std.proofs.Common.{refl}
use Rattle.edit_lines.proofs.print.written.Goals as goal

pub returns-in-Ok-clause-variant : goal.returns-in-Ok-clause-variant
returns-in-Ok-clause-variant c = rw c.in-Ok.is refl
