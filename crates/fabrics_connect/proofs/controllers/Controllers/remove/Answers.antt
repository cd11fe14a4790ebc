use Rattle.fabrics_connect.proofs.Standing.{removed_stand}
use Rattle.fabrics_connect.proofs.controllers.Controllers.remove.Goals as goal

pub invariant_of-self : goal.invariant_of-self
invariant_of-self c = rw c.remove.ensures.emptied (removed_stand c.self.inside.rows _ c.self.invariant)
