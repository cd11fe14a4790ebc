use Rattle.change_lists.proofs.Lists.{nsids_listed}
use Rattle.change_lists.proofs.active_list.nsids_are_listed.Goals as goal

pub returns : goal.returns
returns c = nsids_listed
