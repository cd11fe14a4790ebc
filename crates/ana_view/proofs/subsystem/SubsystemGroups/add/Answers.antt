use Rattle.std.proofs.Common.{◌≡◌, ◌∙◌, arith}
use Rattle.ana_view.specs.Group.{listed}
use Rattle.ana_view.proofs.Counting.{listed_alike}
use Rattle.ana_view.proofs.Ready.{put_listed}
use Rattle.ana_view.proofs.subsystem.SubsystemGroups.add.Goals as goal

pub returns-clause-listed : goal.returns-clause-listed
returns-clause-listed c =
    let seen = c.args.seen.now in
    let subsystem = c.args.subsystem.now in
    let are = rw (← c.self.view_is) at c.requires.listed in
    let is : c.in_ok-list.list ≡ listed seen subsystem c.args.port =
    c.in_ok-list.ensures ∙ listed_alike _ _ (λ group above below. c.of.ensures group (omega arith)) in
    rw (c.in_ok-insert.ensures.entries) (put_listed seen subsystem c.self.inside.ports.entries c.args.port c.in_ok-list.list are is)
