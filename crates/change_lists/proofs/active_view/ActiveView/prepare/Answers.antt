use Rattle.std.proofs.Common.{sym}
use Rattle.change_lists.proofs.Planned.{leads_nothing_accepted, plans_nothing_accepted}
use Rattle.change_lists.proofs.active_view.ActiveView.prepare.Goals as goal

pub returns-in_default-clause-plan : goal.returns-in_default-clause-plan
returns-in_default-clause-plan c = plans_nothing_accepted c.args.config.now c.args.edit.now (sym c.in_default.ensures)

pub returns-in_default-clause-next : goal.returns-in_default-clause-next
returns-in_default-clause-next c = λ shows. leads_nothing_accepted c.args.config.now c.args.edit.now c.args.self.now.shown (sym c.in_default.ensures) shows
