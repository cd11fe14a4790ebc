use Rattle.std.proofs.Common.{◌≡◌, ◌||◌, true}
use Rattle.std.specs.List.{list_any}
use Rattle.change_lists.specs.ChangedSet.{with_nsids}
use Rattle.change_lists.proofs.changed_set.add_all.Given as goal

-- with those that are left it comes to all
abbrev pub invariant-loop-nsid : goal.invariant-loop-nsid
invariant-loop-nsid l = record {
  next : goal.iterator-loop-nsid.can_next l.nsid-iterator;
  finite : goal.iterator-loop-nsid.is_finite l.nsid-iterator;
  any : (l.any || list_any (λ _. true) l.nsid-iterator) ≡ list_any (λ _. true) l.fn.more;
  all : with_nsids l.nsid-iterator l.set ≡ with_nsids l.fn.more l.fn.set;
}
