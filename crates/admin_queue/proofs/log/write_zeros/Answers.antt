use Rattle.std.proofs.Common.{rules}
use Rattle.admin_queue.proofs.log.write_zeros.Goals as goal

pub returns : goal.returns
returns c = search rules
