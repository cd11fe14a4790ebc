use Rattle.io_queue.proofs.Within.{begun_within}
use Rattle.io_queue.proofs.beginning.begin.Goals as goal

pub returns-clause-within : goal.returns-clause-within
returns-clause-within c =
    rw c.on_namespace.ensures
    (begun_within c.args.config.now.units c.in_ok-namespace.namespace.now c.in-Some.opcode c.args.sqe.now.entry.now c.args.capsule_len c.in_ok-namespace.ensures.fits)
