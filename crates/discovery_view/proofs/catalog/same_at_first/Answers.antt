use Rattle.std.proofs.Common.{sym, ◌∙◌, arith}
use Rattle.discovery_view.proofs.Catalogs.{end_common, one_more_common, one_more_first}
use Rattle.discovery_view.proofs.catalog.same_at_first.Goals as goal

pub loop-same-preserved : goal.loop-same-preserved
loop-same-preserved c =
    let loop = c.loop-same.invariant in
    let more = c.loop-same-test.true in
    let alike = rw c.entry.ensures at (sym c.eq.ensures ∙ c.if-eq.true) in
    record {
      within = omega (arith, more);
      records = loop.records;
      entries = loop.entries;
      left = sym (one_more_common c.args.records.now c.args.entries.now c.loop-same.same c.index-records-same.result c.index-entries-same.result (omega (arith, more, loop.records)) (omega (arith, more, loop.entries)) c.index-records-same.is c.index-entries-same.is alike) ∙ loop.left;
      alike = one_more_first c.args.records.now c.args.entries.now c.loop-same.same c.index-records-same.result c.index-entries-same.result (omega (arith, more, loop.records)) (omega (arith, more, loop.entries)) loop.alike c.index-records-same.is c.index-entries-same.is alike;
    }

pub returns-after-loop-same-clause-all : goal.returns-after-loop-same-clause-all
returns-after-loop-same-clause-all c =
    end_common c.args.records.now c.args.entries.now c.loop-same.same c.min-end.result (omega (arith, c.loop-same-test.false)) c.min-end.ensures ∙ c.loop-same.invariant.left
