use Rattle.std.proofs.Common.{◌∙◌}
use Rattle.nvt_config.specs.SeenBy.{seen_by}
use Rattle.ana_view.proofs.Counting.{any_changed, counted_changes}
use Rattle.ana_view.proofs.counts.AnaCounts.note.Goals as goal

pub returns-clause-changed : goal.returns-clause-changed
returns-clause-changed c = λ old new plans.
    let host = c.args.host.now in
    c.count.ensures.changed ∙ any_changed (seen_by old host) (seen_by new host) c.args.subsystem.now c.args.port c.of.result (c.of.ensures old new plans)

pub returns-clause-counts : goal.returns-clause-counts
returns-clause-counts c = λ old new plans.
    let host = c.args.host.now in
    c.count.ensures.counts ∙ counted_changes (seen_by old host) (seen_by new host) c.args.subsystem.now c.args.port c.of.result c.args.self.now (c.of.ensures old new plans)
