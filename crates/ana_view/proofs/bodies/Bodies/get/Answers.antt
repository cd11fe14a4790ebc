use Rattle.std.proofs.Common.{sym, ap, ◌∙◌}
use Rattle.std.specs.Option.{option_copied}
use Rattle.tables.specs.NameTable.{value_of}
use Rattle.ana_view.specs.View.{groups_at, groups_in}
use Rattle.ana_view.proofs.Shows.{lent}
use Rattle.ana_view.proofs.bodies.Bodies.get.Goals as goal

pub returns-in-Some-clause-lent : goal.returns-in-Some-clause-lent
unfolding groups_in
returns-in-Some-clause-lent c =
    rw (← c.self.view_is) (
    c.on.ensures.lent ∙ ap (λ o. groups_at o c.args.port) (sym (ap option_copied c.in-Some.is) ∙ c.get.ensures)
    ∙ lent (value_of c.self.inside.subsystems.values c.args.subsystem.now) c.args.host.now c.args.port)

pub returns-in-None-clause-lent : goal.returns-in-None-clause-lent
unfolding groups_in
returns-in-None-clause-lent c =
    rw (← c.self.view_is) (
    ap (λ o. groups_at o c.args.port) (sym (ap option_copied c.in-None.is) ∙ c.get.ensures)
    ∙ lent (value_of c.self.inside.subsystems.values c.args.subsystem.now) c.args.host.now c.args.port)
