use Rattle.std.proofs.Common.{◌≡◌, ℕ, List, ◌++◌}
use Rattle.std.specs.Prelude.{flat_map}
use Rattle.std.specs.Io.KnownBytes.{Appends}
use Rattle.host_program.specs.Lines.{group_line}
use Rattle.host_program.proofs.access.print_groups.Given as goal

-- the lines that were printed, and those of what is left, are all
abbrev pub invariant-loop-group : goal.invariant-loop-group
invariant-loop-group g l = record {
  next : (goal.iterator-loop-group g).can_next l.group-iterator;
  finite : (goal.iterator-loop-group g).is_finite l.group-iterator;
  printed : (done : List ℕ) × (flat_map group_line l.fn.groups ≡ done ++ flat_map group_line l.group-iterator)
      × Appends (g.W.Write.contents l.fn.out) (g.W.Write.contents l.out) done;
}
