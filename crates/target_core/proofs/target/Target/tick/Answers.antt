use Rattle.std.proofs.Common.{refl}
use Rattle.target_core.proofs.Agreements.{transition_agrees}
use Rattle.target_core.proofs.Moving.{tick_moves_to}
use Rattle.target_core.proofs.target.Target.tick.Goals as goal

pub returns-clause-agrees : goal.returns-clause-agrees
returns-clause-agrees g c =
    rw (← c.self.view_is) (transition_agrees _ _ _
    (tick_moves_to _ _ c.args.now_ms _ c.max-self-inside.ensures refl refl refl refl refl c.settle.ensures.connections c.settle.ensures.rows
    c.settle.ensures.own c.settle.ensures.parts refl))
