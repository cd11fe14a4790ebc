use Rattle.std.proofs.Common.{refl, ap, sym, ◌∙◌}
use Rattle.tables.specs.NumberTable.{with_value}
use Rattle.target_core.proofs.Agreements.{transition_agrees}
use Rattle.target_core.proofs.Moving.{open_moves}
use Rattle.target_core.proofs.Places.{stream_free}
use Rattle.target_core.proofs.target.Target.open.Goals as goal

pub returns-in-Ok-clause-opened : goal.returns-in-Ok-clause-opened
returns-in-Ok-clause-opened g c =
    let free = sym c.least_free.ensures ∙ c.in-Some.is in
    let k = c.in-Some.k in
    rw (← c.self.view_is) (
      free,
      open_moves _ _ c.args.port k free (stream_free _ _ _ c.self.invariant.tables free).1 refl refl refl refl
          (c.put.ensures ∙ ap (with_value c.self.inside.streams k) c.in-Ok.ensures)
          (c.put-in-Ok.ensures ∙ ap (with_value c.self.inside.connections k) c.new-in-Ok.ensures) refl refl c.drop_queue.ensures refl,
    )

pub returns-in-Ok-clause-agrees : goal.returns-in-Ok-clause-agrees
returns-in-Ok-clause-agrees g c = transition_agrees _ _ _ (returns-in-Ok-clause-opened g c).1
