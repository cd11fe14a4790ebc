use Rattle.config_saved.proofs.SavedLines.{read_edits_give_equal, saved_text_read_back}
use Rattle.config_saved.proofs.laws.saved_text_is_read_back.Goals as goal

pub returns-clause-lines : goal.returns-clause-lines
returns-clause-lines c = saved_text_read_back

pub returns-clause-equal : goal.returns-clause-equal
returns-clause-equal c = read_edits_give_equal
