use Rattle.std.proofs.Common.{refl, sym, append-nil}
use Rattle.target_core.proofs.Calls.{receive_agrees}
use Rattle.target_core.proofs.target.Target.receive.Goals as goal

pub returns-then-is_ended-clause-agrees : goal.returns-then-is_ended-clause-agrees
returns-then-is_ended-clause-agrees g c =
    rw (← c.self.view_is)
    (receive_agrees _ _ c.args.k c.in-Some-get_mut.stream.now _ (sym c.in-Some-get_mut.ensures.value) (rw append-nil refl))

pub returns-clause-agrees : goal.returns-clause-agrees
returns-clause-agrees g c =
    rw (← c.self.view_is)
    (receive_agrees _ _ c.args.k c.in-Some-get_mut.stream.now _ (sym c.in-Some-get_mut.ensures.value) (rw c.receive.ensures.held refl))
