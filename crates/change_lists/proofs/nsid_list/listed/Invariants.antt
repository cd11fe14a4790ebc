use Rattle.std.proofs.Common.{◌≡◌, ◌++◌}
use Rattle.change_lists.proofs.nsid_list.listed.Given as goal

-- those so far, and those that are left, are all
abbrev pub invariant-loop-nsid : goal.invariant-loop-nsid
invariant-loop-nsid l = record {
  next : goal.iterator-loop-nsid.can_next l.nsid-iterator;
  finite : goal.iterator-loop-nsid.is_finite l.nsid-iterator;
  all : l.nsids.items ++ l.nsid-iterator ≡ l.fn.left;
}
