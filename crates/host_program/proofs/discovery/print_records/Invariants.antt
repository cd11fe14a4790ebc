use Rattle.std.proofs.Common.{◌≡◌, ℕ, List, ◌++◌}
use Rattle.std.specs.Prelude.{flat_map}
use Rattle.std.specs.Io.KnownBytes.{Appends}
use Rattle.host_program.specs.Lines.{record_line}
use Rattle.host_program.proofs.discovery.print_records.Given as goal

-- the lines that were printed, and those of what is left, are all
abbrev pub invariant-loop-found : goal.invariant-loop-found
invariant-loop-found g l = record {
  next : (goal.iterator-loop-found g).can_next l.found-iterator;
  finite : (goal.iterator-loop-found g).is_finite l.found-iterator;
  printed : (done : List ℕ) × (flat_map record_line l.fn.records ≡ done ++ flat_map record_line l.found-iterator)
      × Appends (g.W.Write.contents l.fn.out) (g.W.Write.contents l.out) done;
}
