use Rattle.std.proofs.Common.{◌∙◌}
use Rattle.event_queue.proofs.Edits.{edited_after, edited_answers}
use Rattle.event_queue.proofs.events.Events.edited.Goals as goal

pub returns-clause-result : goal.returns-clause-result
returns-clause-result c =
    c.of.ensures
    ∙ edited_answers c.args.self.now c.arise_where-by_namespace.new.self c.arise_where-by_ana.new.self c.arise_where-by_discovery.new.self c.args.changes
    c.counts-namespace.result c.counts-ana.result c.counts-discovery.result
    c.arise_where-by_namespace.result c.arise_where-by_ana.result c.arise_where-by_discovery.result
    (record {
      namespace = c.counts-namespace.ensures;
      ana = c.counts-ana.ensures;
      discovery = c.counts-discovery.ensures;
      first = c.arise_where-by_namespace.ensures.after;
      second = c.arise_where-by_ana.ensures.after;
      third = c.arise_where-by_discovery.ensures.after;
    })
    c.arise_where-by_namespace.ensures.result c.arise_where-by_ana.ensures.result c.arise_where-by_discovery.ensures.result

pub returns-clause-after : goal.returns-clause-after
returns-clause-after c =
    edited_after c.args.self.now c.arise_where-by_namespace.new.self c.arise_where-by_ana.new.self c.arise_where-by_discovery.new.self c.args.changes
    c.counts-namespace.result c.counts-ana.result c.counts-discovery.result
    (record {
      namespace = c.counts-namespace.ensures;
      ana = c.counts-ana.ensures;
      discovery = c.counts-discovery.ensures;
      first = c.arise_where-by_namespace.ensures.after;
      second = c.arise_where-by_ana.ensures.after;
      third = c.arise_where-by_discovery.ensures.after;
    })
