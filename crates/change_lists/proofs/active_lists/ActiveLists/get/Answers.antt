use Rattle.std.proofs.Common.{ap, ◌∙◌, []}
use Rattle.std.specs.Prelude.{unwrap_or}
use Rattle.tables.specs.NameTable.{value_of}
use Rattle.change_lists.specs.ActiveView.{nsids_in}
use Rattle.change_lists.proofs.Ready.{lent}
use Rattle.change_lists.proofs.active_lists.ActiveLists.get.Goals as goal

pub returns-in-Some : goal.returns-in-Some
unfolding nsids_in
returns-in-Some c =
    rw (← c.self.view_is) (c.as_slice.ensures ∙ ap (λ o. unwrap_or o []) c.in-Some.ensures ∙ lent (value_of c.self.inside.lists.values c.args.subsystem.now) c.args.host.now)

pub returns-in-None : goal.returns-in-None
unfolding nsids_in
returns-in-None c =
    rw (← c.self.view_is) (ap (λ o. unwrap_or o []) c.in-None.ensures ∙ lent (value_of c.self.inside.lists.values c.args.subsystem.now) c.args.host.now)
