use Rattle.std.proofs.Common.{length, ap, arith}
use Rattle.nvt_ports.specs.Lately.{Order}
use Rattle.nvt_ports.proofs.Plans.{length-plan}
use Rattle.nvt_ports.proofs.turn_order.TurnOrder.len.Goals as goal

pub returns-clause-len : goal.returns-clause-len
returns-clause-len c =
    omega (
      arith,
      length-plan c.args.self.now,
      c.due.ensures.due,
      c.self.inside.lately.ok.0,
      ap (λ (o : Order). length o.lately) c.self.view_is,
    )
