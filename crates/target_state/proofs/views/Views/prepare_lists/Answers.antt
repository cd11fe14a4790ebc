use Rattle.std.proofs.Common.{IfOk}
use Rattle.ana_view.specs.View.{IsShownAfter as AnaIsShownAfter, LeadsTo as AnaLeadsTo, PlansEdit as PlansAna, Shown as AnaShown, ShowsAna}
use Rattle.nvt_config.specs.Accept.{accept}
use Rattle.target_state.specs.Views.{ListsLeadTo}
use Rattle.target_state.proofs.Shows.{lists_lead}
use Rattle.target_state.proofs.Together.{both_ok, ok_both}
use Rattle.target_state.proofs.views.Views.prepare_lists.Goals as goal

pub returns-then-is_none-clause-lead : goal.returns-then-is_none-clause-lead
returns-then-is_none-clause-lead c =
    let config = c.args.config.now in
    let shown = c.args.self.now.shown in
    let accepted = accept config c.args.edit.now in
    let lists = c.in_ok-active.active in
    let groups = c.prepare-then-is_none in
    λ active ana.
    both_ok lists groups.result c.both.result (λ a b. IfOk accepted (λ next. ListsLeadTo config next shown a b)) c.both.ensures
    (ok_both groups.result (λ a. IfOk accepted (λ next. PlansAna config next a)) (λ a. IfOk accepted (λ next. AnaLeadsTo next shown.ana a))
    (λ a. IfOk accepted (λ next. ListsLeadTo config next shown lists a))
    (λ a plans leads. lists_lead config shown accepted lists a c.in_ok-active.ensures.plan
    (rw (← c.self.view_is) (c.in_ok-active.ensures.next (rw (← c.self.view_is) at active))) plans leads)
    groups.ensures.planned (rw (← c.self.view_is) (groups.ensures.next (rw (← c.self.view_is) at ana))))

pub returns-clause-lead : goal.returns-clause-lead
returns-clause-lead c =
    let config = c.args.config.now in
    let next = c.in_ok-next.next in
    let shown = c.args.self.now.shown in
    rw c.in_ok-next.ensures (λ active ana.
    let lists = c.«in_ok-active-2».active in
    both_ok lists c.«prepare_to-2».result c.«both-2».result (λ a b. ListsLeadTo config next shown a b) c.«both-2».ensures
    (ok_both c.«prepare_to-2».result (PlansAna config next) (λ groups. (new : AnaShown) → AnaIsShownAfter shown.ana groups new → ShowsAna next new) (λ groups. ListsLeadTo config next shown lists groups)
    (λ groups plans leads. record {
      active = c.«in_ok-active-2».ensures.plan;
      active_next = rw (← c.self.view_is) (c.«in_ok-active-2».ensures.next (rw (← c.self.view_is) at active));
      ana = plans;
      ana_next = leads;
    }) c.«prepare_to-2».ensures.planned (rw (← c.self.view_is) (c.«prepare_to-2».ensures.next (rw (← c.self.view_is) at ana)))))
