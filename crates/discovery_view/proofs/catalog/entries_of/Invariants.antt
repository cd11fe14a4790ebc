use Rattle.std.proofs.Common.{◌≡◌, take}
use Rattle.discovery_view.proofs.catalog.entries_of.Given as goal

abbrev pub invariant-loop-record : goal.invariant-loop-record
invariant-loop-record l = l.entries.items ≡ take l.record-index l.kept
