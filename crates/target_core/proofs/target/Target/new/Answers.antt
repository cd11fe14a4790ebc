use Rattle.std.proofs.Common.{sym}
use Rattle.target_core.proofs.Agreements.{new_agrees}
use Rattle.target_core.proofs.target.Target.new.Goals as goal

pub returns-in-Ok-clause-agrees : goal.returns-in-Ok-clause-agrees
returns-in-Ok-clause-agrees g c =
    new_agrees _ _ (rw c.deref.ensures.value at (sym c.if-not-are_disks.ensures)) c.in-Ok.ensures
