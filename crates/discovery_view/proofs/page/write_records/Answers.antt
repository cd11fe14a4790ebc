use Rattle.std.proofs.Common.{◌≡◌, ◌++◌, length, get_or, refl, length-append, slice_range, ap, ◌∙◌, append_assoc, arith, rules}
use Rattle.std.specs.List.{flat_map}
use Rattle.discovery_view.specs.Catalog.{no_parts}
use Rattle.discovery_view.specs.Record.{record_of}
use Rattle.discovery_view.proofs.Pages.{own_length, records_more}
use Rattle.discovery_view.proofs.page.write_records.Goals as goal

pub loop-index-preserved : goal.loop-index-preserved
loop-index-preserved g c =
    let loop = c.loop-index.invariant in
    let index = c.loop-index.index in
    let first = c.args.first in
    let records = c.args.records.now.records in
    let below = c.loop-index-test.true in
    let p = get_or records index no_parts in
    let done = flat_map record_of (slice_range records first index) in
    let more = records_more records first index p loop.from (omega (arith, below, c.requires.within)) refl in
    let written : c.bytes.result.now ≡ record_of p = c.bytes.ensures ∙ c.get.ensures in
    let long : length (record_of p) ≡ 1024 = omega (arith, ap length written) in
    record {
      from = omega (arith, loop.from);
      place = omega (arith, loop.place, loop.from);
      bytes = omega (arith, ap length more, length-append done (record_of p), long, loop.bytes, loop.from);
      shown = λ page at shown.
          let now = c.write_part.ensures (page ++ done) (omega (arith, length-append page done, at, loop.place, loop.bytes)) (own_length c.loop-index.out (page ++ done) c.args.offset _ (loop.shown page at shown)) in
          let len : length c.loop-index.out ≡ length c.args.out.now = search rules in
          rw (more, ← written, ← append_assoc page done c.bytes.result.now, ← len) now;
    }
