use Rattle.std.proofs.Common.{sym}
use Rattle.io_queue.proofs.Within.{found_on_disk, on_disk_is_small}
use Rattle.io_queue.proofs.reach.reached.Goals as goal

pub returns-clause-small : goal.returns-clause-small
returns-clause-small c =
    on_disk_is_small c.args.config.now.units c.in-Some.namespace.now
    (found_on_disk c.args.config.now c.as_bytes-host.result.now c.as_bytes-subsystem.result.now c.nsid.result c.in-Some.namespace.now c.in-Some.ensures.valid (sym c.in-Some.ensures.found))

pub returns-clause-fits : goal.returns-clause-fits
returns-clause-fits c =
    found_on_disk c.args.config.now c.as_bytes-host.result.now c.as_bytes-subsystem.result.now c.nsid.result c.in-Some.namespace.now c.in-Some.ensures.valid (sym c.in-Some.ensures.found)
