use Rattle.std.proofs.Common.{◌≡◌, ℕ, ◌-◌, ◌^◌, min, List, ◌++◌, length}
use Rattle.std.specs.Prelude.{None}
use Rattle.std.specs.List.{last_or}
use Rattle.std.specs.Io.KnownBytes.{Appends}
use Rattle.host_program.specs.Listing.{list_text}
use Rattle.host_program.proofs.namespaces.print_nsids.Given as goal

-- those that were printed, and those that are left, are all
abbrev pub invariant-loop-nsid : goal.invariant-loop-nsid
invariant-loop-nsid g l = record {
  next : (goal.iterator-loop-nsid g).can_next l.nsid-iterator;
  finite : (goal.iterator-loop-nsid g).is_finite l.nsid-iterator;
  printed : (done : List ℕ) × (l.fn.nsids ≡ done ++ l.nsid-iterator) × (l.count ≡ min (length done) (2 ^ 64 - 1)) × (last_or l.last l.nsid-iterator ≡ last_or None l.fn.nsids)
      × Appends (g.W.Write.contents l.fn.out) (g.W.Write.contents l.out) (list_text done);
}
