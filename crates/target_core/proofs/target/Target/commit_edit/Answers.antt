use Rattle.std.proofs.Common.{Ok, refl, ap, sym, ◌∙◌}
use Rattle.admin_queue.specs.Planned.{Plans}
use Rattle.target_core.proofs.Moving.{edit_moves}
use Rattle.target_core.proofs.Places.{map_is_target}
use Rattle.target_state.proofs.Shows.{plans_told}
use Rattle.target_state.proofs.Together.{both_there}
use Rattle.target_state.proofs.Units.{edit_keeps_units}
use Rattle.target_core.proofs.target.Target.commit_edit.Goals as goal

pub commit-requires-2 : goal.commit-requires-2
commit-requires-2 g c =
    let both = both_there c.in_ok-change.change c.«in_ok-change-2».change c.prepare-2.result c.«in_ok-change-2».plans
    c.both.result c.both.ensures c.«in_ok-change-2».was in
    rw both.1 at c.prepare-2.ensures.planned

pub invariant_of-self-2 : goal.invariant_of-self-2
invariant_of-self-2 g c =
    let both = both_there c.in_ok-change.change c.«in_ok-change-2».change c.prepare-2.result c.«in_ok-change-2».plans
    c.both.result c.both.ensures c.«in_ok-change-2».was in
    let old = c.self.inside.config in
    let next = c.commit.new.self in
    let accepted = (rw both.0 at c.in_ok-change.ensures.makes) ∙ ap Ok (sym c.commit.ensures) in
    let lead = rw (both.1, accepted) at c.prepare-2.ensures.leads in
    let plans : Plans old next c.planned-planned.result = rw c.planned-planned.ensures (plans_told old next _ _ (c.prepare-2.ensures.stays old c.self.invariant.shows) lead) in
    record {
      tables = rw (c.tell.ensures old next plans) (map_is_target _ _ _ (rw c.settle.ensures.connections (map_is_target _ _ _ c.self.invariant.tables)));
      units = edit_keeps_units old next c.args.edit.now accepted ∙ c.self.invariant.units;
      shows = c.commit-2.ensures.of old next lead;
    }

pub returns-clause-ok : goal.returns-clause-ok
returns-clause-ok g c =
    let both = both_there c.in_ok-change.change c.«in_ok-change-2».change c.prepare-2.result c.«in_ok-change-2».plans
    c.both.result c.both.ensures c.«in_ok-change-2».was in
    rw (← c.self.view_is) ((rw both.0 at c.in_ok-change.ensures.makes) ∙ ap Ok (sym c.commit.ensures))

pub returns-clause-transition : goal.returns-clause-transition
returns-clause-transition g c =
    let both = both_there c.in_ok-change.change c.«in_ok-change-2».change c.prepare-2.result c.«in_ok-change-2».plans
    c.both.result c.both.ensures c.«in_ok-change-2».was in
    let old = c.self.inside.config in
    let next = c.commit.new.self in
    let accepted = (rw both.0 at c.in_ok-change.ensures.makes) ∙ ap Ok (sym c.commit.ensures) in
    let lead = rw (both.1, accepted) at c.prepare-2.ensures.leads in
    let plans : Plans old next c.planned-planned.result = rw c.planned-planned.ensures (plans_told old next _ _ (c.prepare-2.ensures.stays old c.self.invariant.shows) lead) in
    rw (← c.self.view_is)
    (edit_moves _ _ c.args.edit.now c.promise.ensures accepted refl
    (rw c.prepare-2.ensures.kept at (c.commit-2.ensures.shown old next lead))
    (rw c.commit-2.ensures.formed c.prepare-2.ensures.reach) refl
    c.settle.new.connections (rw c.of_edit.ensures at c.settle.ensures.connections) (c.tell.ensures old next plans) (λ n. rw c.of_edit.ensures at (c.settle.ensures.rows n))
    (λ n. rw c.of_edit.ensures at (c.settle.ensures.own n)) (λ k t. rw c.of_edit.ensures at (c.settle.ensures.parts k t)) refl)
