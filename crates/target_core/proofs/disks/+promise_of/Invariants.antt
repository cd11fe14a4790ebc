use Rattle.std.proofs.Common.{length}
use Rattle.target_core.proofs.disks.+promise_of.Given as goal

abbrev pub decreases-promise_of : goal.decreases-promise_of
decreases-promise_of g l = length l.stores.now
