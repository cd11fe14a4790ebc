use Rattle.change_lists.proofs.Changed.{changed_is_listed}
use Rattle.change_lists.proofs.changed_set.changed_is_listed.Goals as goal

pub returns : goal.returns
returns c = changed_is_listed
