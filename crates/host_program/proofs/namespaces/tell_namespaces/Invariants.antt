use Rattle.std.proofs.Common.{◌≡◌, ℕ, List, length}
use Rattle.host_program.specs.Listing.{AreTold, above_in}
use Rattle.host_program.proofs.namespaces.tell_namespaces.Given as goal

abbrev pub invariant-loop : goal.invariant-loop
invariant-loop g l = (told : List ℕ) × (length told ≡ l.counter) × (l.above ≡ above_in told)
    × AreTold told l.fn.session l.session (g.W.Write.contents l.fn.out) (g.W.Write.contents l.out)
