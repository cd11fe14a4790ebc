use Rattle.std.proofs.Common.{◌≡◌, Some, None, sym, ap, subst, ◌∙◌}
use Rattle.nvt_config.specs.SeenBy.{seen_by}
use Rattle.ana_view.specs.View.{AreThoseReached, BeforeAfter, groups_on, reached_in}
use Rattle.ana_view.proofs.Plans.{differing_changes, none_changed, nothing_changes}
use Rattle.ana_view.proofs.group_changes.GroupChanges.of.Goals as goal

pub returns-in-Some : goal.returns-in-Some
returns-in-Some c = λ old new plans group above below.
    let host = c.args.host.now in
    let subsystem = c.args.subsystem.now in
    let port = c.args.port in
    let r : BeforeAfter = c.in-Some.groups in
    let is : reached_in c.args.plan.now host subsystem ≡ Some r = sym c.reached.ensures ∙ c.in-Some.is in
    let those : AreThoseReached (seen_by old host) (seen_by new host) subsystem (Some r) =
    subst (λ o. AreThoseReached (seen_by old host) (seen_by new host) subsystem o) is (plans.reached host subsystem) in
    let before : groups_on c.groups.inside.before.now port ≡ groups_on r.before port = ap (λ (x : BeforeAfter). groups_on x.before port) c.groups.view_is in
    let after : groups_on c.groups.inside.after.now port ≡ groups_on r.after port = ap (λ (x : BeforeAfter). groups_on x.after port) c.groups.view_is in
    let differs = rw (c.on.ensures.lent, c.on-in-Some.ensures.lent, before, after) at (c.differences.ensures group above below) in
    differs ∙ differing_changes (seen_by old host) (seen_by new host) subsystem r port group those above below

pub returns-in-None : goal.returns-in-None
returns-in-None c = λ old new plans group above below.
    let host = c.args.host.now in
    let subsystem = c.args.subsystem.now in
    let is : reached_in c.args.plan.now host subsystem ≡ None = sym c.reached.ensures ∙ c.in-None.is in
    let stays : AreThoseReached (seen_by old host) (seen_by new host) subsystem None =
    subst (λ o. AreThoseReached (seen_by old host) (seen_by new host) subsystem o) is (plans.reached host subsystem) in
    none_changed group above below ∙ sym (nothing_changes (seen_by old host) (seen_by new host) subsystem c.args.port group stays)
