use Rattle.std.proofs.Common.{◌≡◌, ◌+◌, ◌≤◌, length, map, take, vec_capacity, vec_len}
use Rattle.discovery_view.specs.Record.{record_of}
use Rattle.discovery_view.proofs.former.form_all.Given as goal

-- a record of each so far
abbrev pub invariant-loop-record : goal.invariant-loop-record
invariant-loop-record g l =
    record {
      room : length l.kept ≤ vec_capacity l.records;
      len : vec_len l.records ≡ l.record-index;
      made : map g.F.Former.bytes_of l.records.items ≡ map record_of (take l.record-index l.kept);
      counted : g.F.Former.count l.former ≤ g.F.Former.count l.fn.former + l.record-index;
    }
