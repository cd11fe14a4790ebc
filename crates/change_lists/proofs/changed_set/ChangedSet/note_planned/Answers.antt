use Rattle.std.proofs.Common.{true, ap, sym, ◌∙◌}
use Rattle.std.specs.List.{list_any}
use Rattle.nvt_config.specs.SeenBy.{seen_by}
use Rattle.config_lists.proofs.Sets.{no_nsids}
use Rattle.change_lists.specs.Changes.{changes_namespace}
use Rattle.change_lists.proofs.Changed.{changes_joined, where_is_set}
use Rattle.change_lists.proofs.Planned.{lent_changed}
use Rattle.change_lists.proofs.changed_set.ChangedSet.note_planned.Goals as goal

pub returns-in-Some-clause-changed : goal.returns-in-Some-clause-changed
returns-in-Some-clause-changed c = λ old new plans.
    let host = c.args.host.now in
    let is = lent_changed (seen_by old host) (seen_by new host) c.args.subsystem.now _ _ (plans.changed host c.args.subsystem.now) c.in-Some.ensures in
    c.add_all.ensures.any ∙ ap (list_any (λ _. true)) is

pub returns-in-Some-clause-noted : goal.returns-in-Some-clause-noted
returns-in-Some-clause-noted c = λ old new plans.
    let host = c.args.host.now in
    let is = lent_changed (seen_by old host) (seen_by new host) c.args.subsystem.now _ _ (plans.changed host c.args.subsystem.now) c.in-Some.ensures in
    rw (← c.self.view_is) (c.add_all.ensures.all ∙ changes_joined (seen_by old host) (seen_by new host) c.args.subsystem.now c.in-Some.changed.now c.self.inside.nsids is)

pub returns-in-None-clause-changed : goal.returns-in-None-clause-changed
returns-in-None-clause-changed c = λ old new plans.
    let host = c.args.host.now in
    let none = lent_changed (seen_by old host) (seen_by new host) c.args.subsystem.now _ _ (plans.changed host c.args.subsystem.now) c.in-None.ensures in
    sym (ap (list_any (λ _. true)) (no_nsids (changes_namespace (seen_by old host) (seen_by new host) c.args.subsystem.now) (λ k above below. none k)))

pub invariant_of-self : goal.invariant_of-self
invariant_of-self c = where_is_set _ _ c.add_all.ensures.all
