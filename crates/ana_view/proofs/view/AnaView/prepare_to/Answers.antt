use Rattle.std.proofs.Common.{sym, ap, ◌∙◌}
use Rattle.std.specs.Option.{option_copied}
use Rattle.ana_view.proofs.Plans.{leads_everyone, leads_nothing, plans_everyone, plans_nothing}
use Rattle.ana_view.proofs.view.AnaView.prepare_to.Goals as goal

pub returns-in_default-clause-planned : goal.returns-in_default-clause-planned
returns-in_default-clause-planned c =
    plans_nothing c.args.config.now c.args.next.now c.args.edit.now c.requires (sym c.in_default.ensures)

pub returns-in_default-clause-next : goal.returns-in_default-clause-next
returns-in_default-clause-next c =
    leads_nothing c.args.config.now c.args.next.now c.args.edit.now c.requires (sym c.in_default.ensures) c.args.self.now.shown

pub returns-in_default-host_reached-clause-planned : goal.returns-in_default-host_reached-clause-planned
returns-in_default-host_reached-clause-planned c =
    let reached = sym c.subsystem_reached.ensures ∙ ap option_copied c.in-Some.is in
    plans_everyone c.args.config.now c.args.next.now c.args.edit.now c.requires c.in-Some.subsystem.now c.in_ok-everyone.everyone reached (sym c.in_default-host_reached.ensures) c.in_ok-everyone.ensures

pub returns-in_default-host_reached-clause-next : goal.returns-in_default-host_reached-clause-next
returns-in_default-host_reached-clause-next c =
    let reached = sym c.subsystem_reached.ensures ∙ ap option_copied c.in-Some.is in
    leads_everyone c.args.config.now c.args.next.now c.args.edit.now c.requires c.in-Some.subsystem.now c.in_ok-everyone.everyone reached (sym c.in_default-host_reached.ensures) c.in_ok-everyone.ensures c.args.self.now.shown

pub returns-clause-planned : goal.returns-clause-planned
returns-clause-planned c = rw c.requires at c.prepare_one.ensures.planned

pub returns-clause-next : goal.returns-clause-next
returns-clause-next c = λ shows. rw c.requires at (c.prepare_one.ensures.next shows)
