use Rattle.std.proofs.Common.{ap, sym, ◌∙◌, subst}
use Rattle.nvt_config.specs.Configuration.{Configuration}
use Rattle.discovery_view.specs.declared.rows_plan.RowsPlan.TheVariants.{One}
use Rattle.discovery_view.specs.Allowed.{allows_after, host_of}
use Rattle.discovery_view.specs.Plan.{IsPlaceOf, LeadsTo}
use Rattle.discovery_view.specs.Ready.{ListsState, Places}
use Rattle.discovery_view.proofs.Plans.{made_one, one_next, one_within, planned}
use Rattle.discovery_view.proofs.Reaches.{allowance_becomes, allowance_leaves}
use Rattle.discovery_view.proofs.lists.Lists.prepare_host.Goals as goal

pub returns-in_ok-ready-in-Some-clause-planned : goal.returns-in_ok-ready-in-Some-clause-planned
returns-in_ok-ready-in-Some-clause-planned c =
    let config = c.args.config.now in
    let next : Configuration = record config { allows = allows_after config.allows c.args.allowance } in
    let ready = c.in_ok-ready-in-Some.ready in
    let host = host_of c.args.allowance in
    let found : IsPlaceOf c.host.result.now c.self.inside.table.hosts c.in-Some.place = c.in-Some.ensures in
    let there = subst (λ (l : ListsState). IsPlaceOf host l.rows.hosts c.in-Some.place) c.self.view_is (rw c.host.ensures at found) in
    rw c.staying.ensures.plan
    (planned _ _ _ (One c.in-Some.place ready)
    (one_within next _ _ host c.in-Some.place ready c.staying.ensures.within there c.requires.of.table
    (ap (λ (r : Places). r.places) c.in_ok-ready-in-Some.ensures)))

pub returns-in_ok-ready-in-Some-clause-next : goal.returns-in_ok-ready-in-Some-clause-next
returns-in_ok-ready-in-Some-clause-next c =
    let config = c.args.config.now in
    let next : Configuration = record config { allows = allows_after config.allows c.args.allowance } in
    let ready = c.in_ok-ready-in-Some.ready in
    let host = host_of c.args.allowance in
    let slots = c.args.self.now.slots in
    let rows = c.args.self.now.rows in
    let found : IsPlaceOf c.host.result.now c.self.inside.table.hosts c.in-Some.place = c.in-Some.ensures in
    let there = subst (λ (l : ListsState). IsPlaceOf host l.rows.hosts c.in-Some.place) c.self.view_is (rw c.host.ensures at found) in
    let leads : LeadsTo next c.args.self.now.shown slots rows c.staying.result =
    rw (c.staying.ensures.plan, c.staying.ensures.shown)
    (one_next next slots rows host c.in-Some.place ready there c.requires.of.table
    (λ other apart. c.requires.of.places other ∙ sym ((allowance_leaves config c.args.allowance).places other apart))
    (rw c.staying.ensures.shown at c.in_ok-ready-in-Some.ensures)) in
    rw c.requires.edit (made_one _ _ (λ d made. subst (λ (n : Configuration). LeadsTo n c.args.self.now.shown slots rows c.staying.result) (sym (allowance_becomes config c.args.allowance d made)) leads))
