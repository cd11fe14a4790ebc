use Rattle.std.proofs.Common.{◌≡◌, ◌++◌, ℕ, List, length}
use Rattle.nvt_fields.specs.Window.{window}
use Rattle.change_lists.specs.ActiveList.{list_page}
use Rattle.change_lists.proofs.changed_set.write_nsids.Given as goal

-- the window shows the identifiers so far
abbrev pub invariant-loop-nsid : goal.invariant-loop-nsid
invariant-loop-nsid l = record {
  next : goal.iterator-loop-nsid.can_next l.nsid-iterator;
  finite : goal.iterator-loop-nsid.is_finite l.nsid-iterator;
  shown : (done : List ℕ) × (l.fn.nsids ≡ done ++ l.nsid-iterator) × (length (list_page done) ≡ l.at) × (l.out ≡ window (list_page done) l.offset (length l.fn.out));
}
