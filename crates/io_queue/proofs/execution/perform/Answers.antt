use Rattle.std.proofs.Common.{◌≡◌}
use Rattle.io_queue.specs.Operation.{disk_of}
use Rattle.io_queue.proofs.Executions.{performed_at}
use Rattle.io_queue.proofs.execution.perform.Goals as goal

pub returns-clause-performs : goal.returns-clause-performs
returns-clause-performs g c =
    let is : c.from.result ≡ disk_of c.args.operation.now = c.from.ensures in
    rw is (performed_at c.args.operation.now c.args.bytes.now c.args.format c.args.stores.now c.index-stores-from.result c.perform_on.new.store
    c.args.output.now.items c.perform_on.new.output.items c.perform_on.result c.requires.within
    (rw is at c.perform_on.ensures.units) (rw is at c.perform_on.ensures.performs))
