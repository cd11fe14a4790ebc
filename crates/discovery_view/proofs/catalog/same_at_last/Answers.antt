use Rattle.std.proofs.Common.{◌≡◌, length, min, reverse, sym, ◌∙◌, arith}
use Rattle.std.proofs.lemmas.List.{get_or-reverse, length-reverse}
use Rattle.discovery_view.proofs.Catalogs.{end_common, none_common, one_more_common, one_more_last}
use Rattle.discovery_view.proofs.catalog.same_at_last.Goals as goal

pub loop-same-preserved : goal.loop-same-preserved
loop-same-preserved c =
    let loop = c.loop-same.invariant in
    let more = c.loop-same-test.true in
    let alike = rw c.entry.ensures at (sym c.eq.ensures ∙ c.if-eq.true) in
    record {
      within = omega (arith, more);
      records = loop.records;
      entries = loop.entries;
      left = sym (one_more_common (reverse c.args.records.now) (reverse c.args.entries.now) c.loop-same.same c.index-records-records.result c.index-entries-entries.result (omega (arith, more, loop.records, length-reverse c.args.records.now)) (omega (arith, more, loop.entries, length-reverse c.args.entries.now))
          (c.index-records-records.is ∙ sym (get_or-reverse c.args.records.now c.loop-same.same c.index-records-records.result (omega (arith, more, loop.records))))
          (c.index-entries-entries.is ∙ sym (get_or-reverse c.args.entries.now c.loop-same.same c.index-entries-entries.result (omega (arith, more, loop.entries)))) alike) ∙ loop.left;
      alike = one_more_last c.args.records.now c.args.entries.now c.loop-same.same c.index-records-records.result c.index-entries-entries.result (omega (arith, more, loop.records)) (omega (arith, more, loop.entries)) loop.alike c.index-records-records.is c.index-entries-entries.is alike;
    }

pub returns-after-loop-same-clause-all : goal.returns-after-loop-same-clause-all
returns-after-loop-same-clause-all c =
    let ends : c.min-end.result ≡ min (length (reverse c.args.records.now)) (length (reverse c.args.entries.now)) = rw (length-reverse, length-reverse) c.min-end.ensures in
    end_common (reverse c.args.records.now) (reverse c.args.entries.now) c.loop-same.same c.min-end.result (omega (arith, c.loop-same-test.false)) ends ∙ c.loop-same.invariant.left

pub returns-else-eq-clause-all : goal.returns-else-eq-clause-all
returns-else-eq-clause-all c =
    let loop = c.loop-same.invariant in
    let more = c.loop-same-test.true in
    let records = c.args.records.now in
    let entries = c.args.entries.now in
    let differ = rw c.entry.ensures at (sym c.eq.ensures ∙ c.if-eq.false) in
    none_common (reverse records) (reverse entries) c.loop-same.same c.index-records-records.result c.index-entries-entries.result (omega (arith, more, loop.records, length-reverse records)) (omega (arith, more, loop.entries, length-reverse entries))
    (c.index-records-records.is ∙ sym (get_or-reverse records c.loop-same.same c.index-records-records.result (omega (arith, more, loop.records))))
    (c.index-entries-entries.is ∙ sym (get_or-reverse entries c.loop-same.same c.index-entries-entries.result (omega (arith, more, loop.entries)))) differ ∙ loop.left
