use Rattle.std.proofs.Common.{sym, subst}
use Rattle.fabrics_connect.specs.Controllers.{AreControllers}
use Rattle.fabrics_connect.proofs.Standing.{none_stand}
use Rattle.fabrics_connect.proofs.controllers.Controllers.new.Goals as goal

pub invariant_of-result : goal.invariant_of-result
invariant_of-result c = subst AreControllers (sym c.in_ok-new.ensures) none_stand
