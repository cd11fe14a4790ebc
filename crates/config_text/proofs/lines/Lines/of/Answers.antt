use Rattle.std.proofs.Common.{refl}
use Rattle.config_text.proofs.lines.Lines.of.Goals as goal

pub returns : goal.returns
returns c = refl
