use Rattle.std.proofs.Common.{ap, ◌∙◌}
use Rattle.nvt_config.specs.Accept.{accept}
use Rattle.discovery_view.specs.Plan.{LeadsTo}
use Rattle.target_state.specs.Views.{ListsLeadTo, ViewsState}
use Rattle.target_state.proofs.Together.{both_there, ok_both}
use Rattle.target_state.proofs.views.Views.prepare.Goals as goal

pub returns-clause-planned : goal.returns-clause-planned
returns-clause-planned c =
    let both = both_there c.in_ok-lists.lists (c.in_ok-active.active, c.in_ok-active.ana) c.prepare-discovery.result c.in_ok-active.discovery
    c.both.result c.both.ensures c.in_ok-active.was in
    record {
      discovery = rw both.1 at c.prepare-discovery.ensures.planned;
      active = rw (both.0, ← c.self.view_is) at c.in_ok-lists.ensures.active;
      ana = rw (both.0, ← c.self.view_is) at c.in_ok-lists.ensures.ana;
    }

pub returns-clause-leads : goal.returns-clause-leads
returns-clause-leads c =
    let both = both_there c.in_ok-lists.lists (c.in_ok-active.active, c.in_ok-active.ana) c.prepare-discovery.result c.in_ok-active.discovery
    c.both.result c.both.ensures c.in_ok-active.was in
    let config = c.args.config.now in
    let view = c.self.inside.discovery in
    let shown = c.args.self.now.shown in
    let same = c.self.view_is ∙ c.prepare_lists.ensures.kept in
    let leads = rw both.1 at c.prepare-discovery.ensures.next in
    let lists = rw both.0 at (c.in_ok-lists.ensures.lead c.requires.of.active c.requires.of.ana) in
    ok_both (accept config c.args.edit.now) (λ next. LeadsTo next view.shown view.slots view.rows c.in_ok-active.discovery)
    (λ next. ListsLeadTo config next shown c.in_ok-active.active c.in_ok-active.ana) _
    (λ next discovery l. record {
      discovery = rw (c.prepare-discovery.ensures.kept, c.prepare-discovery.ensures.slots, c.prepare-discovery.ensures.rows) discovery;
      lists = record {
        active = l.active;
        active_next = rw (ap (λ (v : ViewsState). v.shown.active) same) l.active_next;
        ana = l.ana;
        ana_next = rw (ap (λ (v : ViewsState). v.shown.ana) same) l.ana_next;
      };
    }) leads lists
