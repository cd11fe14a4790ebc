use Rattle.std.proofs.Common.{ℕ, sym}
use Rattle.tables.specs.NumberTable.{place}
use Rattle.fabrics_connect.proofs.Consequences.{controller_begins, controller_named, queue_joins}
use Rattle.fabrics_connect.proofs.decision.decide.Goals as goal

pub returns-in-Ok-clause-begins : goal.returns-in-Ok-clause-begins
returns-in-Ok-clause-begins c =
    controller_begins c.args.config.now c.args.controllers.now c.args.port c.args.command.now.entry c.args.command.now.payload c.in-Ok.admit (sym c.in-Ok.ensures)

pub returns-in-Ok-clause-named : goal.returns-in-Ok-clause-named
returns-in-Ok-clause-named c =
    controller_named c.args.config.now (λ (k : ℕ). place c.args.controllers.now k) c.args.port c.args.command.now.entry c.args.command.now.payload c.in-Ok.admit (sym c.in-Ok.ensures)

pub returns-in-Ok-clause-joins : goal.returns-in-Ok-clause-joins
returns-in-Ok-clause-joins c =
    queue_joins c.args.config.now c.args.controllers.now c.args.port c.args.command.now.entry c.args.command.now.payload c.in-Ok.admit (sym c.in-Ok.ensures)
