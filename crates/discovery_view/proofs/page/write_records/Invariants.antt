use Rattle.std.proofs.Common.{◌≡◌, ◌+◌, ◌-◌, ◌*◌, ◌++◌, ◌≤◌, List, ℕ, length, slice_range}
use Rattle.std.specs.List.{flat_map}
use Rattle.nvt_fields.specs.Window.{window}
use Rattle.discovery_view.specs.Record.{record_of}
use Rattle.discovery_view.proofs.page.write_records.Given as goal

-- the window shows the page and the records so far
abbrev pub invariant-loop-index : goal.invariant-loop-index
invariant-loop-index g l =
    record {
      from : l.first ≤ l.index;
      place : l.next ≡ l.at + 1024 * (l.index - l.first);
      bytes : length (flat_map record_of (slice_range l.records.records l.first l.index)) ≡ 1024 * (l.index - l.first);
      shown : (page : List ℕ) → length page ≡ l.at → l.fn.out ≡ window page l.offset (length l.fn.out)
          → l.out ≡ window (page ++ flat_map record_of (slice_range l.records.records l.first l.index)) l.offset (length l.fn.out);
    }
