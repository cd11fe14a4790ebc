use Rattle.std.proofs.Common.{◌≡◌, ◌++◌, ◌≤◌, [], length, replicate, take, refl, ◌∙◌, arith, rules}
use Rattle.std.proofs.lemmas.List.{append-nil}
use Rattle.std.specs.Int.{w64, to_le_bytes}
use Rattle.std.specs.List.{flat_map}
use Rattle.nvt_fields.proofs.Windows.{window_of_nothing}
use Rattle.discovery_view.specs.Record.{record_of}
use Rattle.discovery_view.proofs.Pages.{front_long, header_of, header_shown, length_of_header, own_length, page_parts, records_ahead, records_between, records_passed, records_whole}
use Rattle.discovery_view.proofs.page.write_page.Goals as goal

pub returns : goal.returns
returns g c =
    let records = c.args.records.now.records in
    let n = length c.args.out.now in
    let offset = c.args.offset in
    let count = c.args.records.now.count in
    let zeros : c.fill.new.self ≡ replicate n 0 = search rules in
    let nothing = own_length c.fill.new.self [] offset n (zeros ∙ window_of_nothing offset n) in
    let generation = to_le_bytes w64 count in
    let first = rw (c.to_le_bytes.ensures, c.count.ensures) at (c.write_part.ensures [] refl nothing) in
    let second = rw (c.to_le_bytes-2.ensures, c.len-count.ensures.len) at (c.write_part-2.ensures generation refl (own_length c.write_part.new.out generation offset _ first)) in
    let header = header_of count (length records) in
    let long = length_of_header count (length records) in
    let out = c.write_part-2.new.out in
    let shown = rw (append-nil header) at (header_shown out offset count (length records) (own_length out (generation ++ to_le_bytes w64 (length records)) offset _ second)) in
    let whole = c.len-count.ensures.ready.whole in
    let range = c.shown-first in
    let from = range.result.0 in
    let to = range.result.1 in
    let within : to ≤ length records = rw c.len-count.ensures.len at range.ensures.within in
    let passed = records_passed out header records from offset long whole (omega (arith, range.ensures.order, within)) range.ensures.before shown in
    let third = c.write_records.ensures (header ++ flat_map record_of (take from records)) (omega (arith, front_long header records from long whole (omega (arith, range.ensures.order, within)))) passed in
    let middle = rw (records_between header records from to range.ensures.order) at third in
    let written = c.write_records.new.out in
    let own = own_length written (header ++ flat_map record_of (take to records)) offset _ middle in
    let len : length written ≡ n = search rules in
    let len_before : length out ≡ length written = search rules in
    let all = records_ahead written (header ++ flat_map record_of (take to records)) records to offset (front_long header records to long whole within) (rw (len_before, c.len-count.ensures.len) at range.ensures.after) own in
    rw (← page_parts count records, ← records_whole header records to, ← len) all
