use Rattle.change_lists.proofs.Planned.{leads_one_accepted, plans_one_accepted}
use Rattle.change_lists.proofs.active_view.ActiveView.prepare_one.Goals as goal

pub returns-clause-plan : goal.returns-clause-plan
returns-clause-plan c =
    plans_one_accepted c.args.config.now c.args.edit.now c.shows_after.result c.args.subsystem.now c.args.host.now c.in_ok-one.one c.shows_after.ensures.alone c.requires.subsystem c.requires.host c.in_ok-one.ensures.of

pub returns-clause-next : goal.returns-clause-next
returns-clause-next c = λ shown.
    leads_one_accepted c.args.config.now c.args.edit.now c.shows_after.result c.args.subsystem.now c.args.host.now c.in_ok-one.one c.shows_after.ensures.alone c.requires.subsystem c.requires.host c.in_ok-one.ensures.of c.args.self.now.shown shown
