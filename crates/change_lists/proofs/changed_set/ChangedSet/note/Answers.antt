use Rattle.change_lists.proofs.Changed.{where_is_set}
use Rattle.change_lists.proofs.changed_set.ChangedSet.note.Goals as goal

pub invariant_of-self : goal.invariant_of-self
invariant_of-self c = where_is_set _ _ c.insert.ensures
