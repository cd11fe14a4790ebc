use Rattle.config_text.proofs.EditLemmas.{line_fault-line_of, one_edit}
use Rattle.config_text.proofs.edit_line.lines_are_read_back.Goals as goal

pub returns-clause-read : goal.returns-clause-read
returns-clause-read c = line_fault-line_of

pub returns-clause-one : goal.returns-clause-one
returns-clause-one c = one_edit
