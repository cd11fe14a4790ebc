use Rattle.edit_lines.proofs.stream_line.after.Goals as goal
use Rattle.std.proofs.lemmas.Bool.Decides.{Decides-eqb}
use Rattle.std.proofs.lemmas.Slice.Eq.{strip_prefix_is}

pub returns : goal.returns
returns c = strip_prefix_is Decides-eqb c.args.line.now c.args.prefix.now c.strip_prefix.result c.strip_prefix.ensures.cases
