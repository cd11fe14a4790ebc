use Rattle.std.proofs.Common.{◌≡◌}
use Rattle.change_lists.specs.Tables.{differs, noted}
use Rattle.change_lists.proofs.differences.add_differing.Given as goal

-- with those that are left it comes to all
abbrev pub invariant-loop-nsid : goal.invariant-loop-nsid
invariant-loop-nsid l = record {
  next : goal.iterator-loop-nsid.can_next l.nsid-iterator;
  finite : goal.iterator-loop-nsid.is_finite l.nsid-iterator;
  noted : noted (differs l.before l.after) l.nsid-iterator l.changed ≡ noted (differs l.before l.after) l.fn.nsids l.fn.changed;
}
