use Rattle.std.proofs.Common.{sym}
use Rattle.ana_view.proofs.Plans.{leads_nothing_accepted, plans_nothing_accepted}
use Rattle.ana_view.proofs.view.AnaView.prepare.Goals as goal

pub returns-in_default-clause-planned : goal.returns-in_default-clause-planned
returns-in_default-clause-planned c = plans_nothing_accepted c.args.config.now c.args.edit.now (sym c.in_default.ensures)

pub returns-in_default-clause-next : goal.returns-in_default-clause-next
returns-in_default-clause-next c = λ shows. leads_nothing_accepted c.args.config.now c.args.edit.now (sym c.in_default.ensures) c.args.self.now.shown shows
