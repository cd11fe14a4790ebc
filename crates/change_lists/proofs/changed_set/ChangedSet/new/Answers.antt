use Rattle.change_lists.proofs.Changed.{empty_is_set}
use Rattle.change_lists.proofs.changed_set.ChangedSet.new.Goals as goal

pub invariant_of-result : goal.invariant_of-result
invariant_of-result c = empty_is_set _ c.new.ensures
