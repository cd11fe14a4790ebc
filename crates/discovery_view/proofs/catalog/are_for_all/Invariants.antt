use Rattle.std.proofs.Common.{◌≡◌, map, take}
use Rattle.discovery_view.specs.Catalog.{is_for_all}
use Rattle.discovery_view.proofs.catalog.are_for_all.Given as goal

abbrev pub invariant-loop-entry : goal.invariant-loop-entry
invariant-loop-entry l = l.flags.items ≡ map (is_for_all l.config) (take l.entry-index l.entries)
