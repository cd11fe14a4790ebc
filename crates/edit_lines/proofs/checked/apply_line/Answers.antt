use Rattle.edit_lines.proofs.Refused.{refused_by}
use Rattle.edit_lines.proofs.checked.apply_line.Goals as goal

pub returns-in-Err-clause-refused : goal.returns-in-Err-clause-refused
returns-in-Err-clause-refused c = rw c.not_read.ensures (refused_by c.args.config.now c.args.line.now c.in-Err.fault c.in-Err.ensures.fault)
