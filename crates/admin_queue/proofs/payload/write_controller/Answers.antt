use Rattle.admin_queue.proofs.payload.write_controller.Goals as goal
use Rattle.admin_queue.proofs.payload.write_controller.Goals.{in-Some, in-None}

pub controller-requires-clause-texts : goal.controller-requires-clause-texts
controller-requires-clause-texts c = elim c.match-controller.branch [ in-Some w ↦ rw w.identity-is (w.serial_of.ensures.bound, w.name_of.ensures.bound) | in-None w ↦ rw w.identity-is tt ]
