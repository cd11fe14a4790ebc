use Rattle.io_queue.proofs.Within.{again_within}
use Rattle.io_queue.proofs.finishing.finish.Goals as goal

pub returns-clause-within : goal.returns-clause-within
returns-clause-within c =
    rw c.on_namespace_again.ensures
    (again_within c.args.config.now.units c.in_ok-namespace.namespace.now c.from_code.result c.args.sqe.now.entry.now c.args.came c.in_ok-namespace.ensures.fits)
