use Rattle.std.proofs.Common.{refl, sym, ◌∙◌}
use Rattle.discovery_view.specs.declared.rows_plan.RowsPlan.TheVariants.{Stay}
use Rattle.discovery_view.proofs.Plans.{all_stay, made_one, planned}
use Rattle.discovery_view.proofs.lists.Lists.prepare.Goals as goal

pub returns-in-Nobody-clause-planned : goal.returns-in-Nobody-clause-planned
returns-in-Nobody-clause-planned c = rw c.staying.ensures.plan (planned _ _ _ Stay c.staying.ensures.within)

pub returns-in-Nobody-clause-next : goal.returns-in-Nobody-clause-next
returns-in-Nobody-clause-next c =
    let leaves = rw c.in-Nobody.is at c.reach_of.ensures in
    made_one _ _ (λ d ok.
    let same = leaves c.args.config.now d ok in
    rw (c.staying.ensures.plan, c.staying.ensures.shown)
    (all_stay d c.args.self.now.slots c.args.self.now.rows (c.requires.of.table ∙ sym same.catalog)
    (λ host. c.requires.of.places host ∙ sym (same.places host refl))))
