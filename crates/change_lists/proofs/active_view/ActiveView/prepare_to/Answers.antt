use Rattle.std.proofs.Common.{ap, sym, ◌∙◌}
use Rattle.std.specs.Option.{option_copied}
use Rattle.change_lists.proofs.Planned.{leads_everyone, leads_nothing, plans_everyone, plans_nothing}
use Rattle.change_lists.proofs.active_view.ActiveView.prepare_to.Goals as goal

pub returns-in_default-clause-plan : goal.returns-in_default-clause-plan
returns-in_default-clause-plan c =
    plans_nothing c.args.config.now c.args.next.now c.args.edit.now c.requires (sym c.subsystem_reached.ensures ∙ ap option_copied c.in_default.is)

pub returns-in_default-clause-next : goal.returns-in_default-clause-next
returns-in_default-clause-next c = λ shows.
    leads_nothing c.args.config.now c.args.next.now c.args.edit.now c.requires (sym c.subsystem_reached.ensures ∙ ap option_copied c.in_default.is) c.args.self.now.shown shows

pub returns-in_default-host_reached-clause-plan : goal.returns-in_default-host_reached-clause-plan
returns-in_default-host_reached-clause-plan c =
    plans_everyone c.args.config.now c.args.next.now c.args.edit.now c.requires c.in-Some.subsystem.now c.in_ok-everyone.everyone (sym c.subsystem_reached.ensures ∙ ap option_copied c.in-Some.is)
    (sym c.host_reached.ensures ∙ ap option_copied c.in_default-host_reached.is) c.in_ok-everyone.ensures

pub returns-in_default-host_reached-clause-next : goal.returns-in_default-host_reached-clause-next
returns-in_default-host_reached-clause-next c = λ shows.
    leads_everyone c.args.config.now c.args.next.now c.args.edit.now c.requires c.in-Some.subsystem.now c.in_ok-everyone.everyone (sym c.subsystem_reached.ensures ∙ ap option_copied c.in-Some.is)
    (sym c.host_reached.ensures ∙ ap option_copied c.in_default-host_reached.is) c.in_ok-everyone.ensures c.args.self.now.shown shows

pub returns-clause-plan : goal.returns-clause-plan
returns-clause-plan c = rw c.requires at c.prepare_one.ensures.plan

pub returns-clause-next : goal.returns-clause-next
returns-clause-next c = λ shows. rw c.requires at (c.prepare_one.ensures.next shows)
