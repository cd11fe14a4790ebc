use Rattle.std.proofs.Common.{◌≡◌, take}
use Rattle.discovery_view.proofs.catalog.kept.Given as goal

abbrev pub invariant-loop-entry : goal.invariant-loop-entry
invariant-loop-entry l = l.records.items ≡ take l.entry-index l.entries
