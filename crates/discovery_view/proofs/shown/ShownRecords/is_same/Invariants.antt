use Rattle.std.proofs.Common.{◌≡◌, drop, length}
use Rattle.discovery_view.specs.Catalog.{records_at}
use Rattle.discovery_view.specs.Record.{same_records}
use Rattle.discovery_view.proofs.shown.ShownRecords.is_same.Given as goal

-- the records so far are the same
abbrev pub invariant-loop-index : goal.invariant-loop-index
invariant-loop-index l =
    record {
      long : length l.self.records ≡ length l.places;
      left : same_records (drop l.index l.self.records) (records_at l.catalog (drop l.index l.places)) ≡ same_records l.self.records (records_at l.catalog l.places);
    }
