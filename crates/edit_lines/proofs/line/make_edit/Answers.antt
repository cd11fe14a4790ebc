use Rattle.edit_lines.proofs.Refused.{not_made_by_rule}
use Rattle.edit_lines.proofs.line.make_edit.Goals as goal

pub returns-in-Err-clause-refused : goal.returns-in-Err-clause-refused
returns-in-Err-clause-refused g c =
    rw c.not_made.ensures (not_made_by_rule c.args.target.now.config c.args.edit.now c.in-Err.fault c.in-Err.ensures.accepted c.in-Err.ensures.refused)
