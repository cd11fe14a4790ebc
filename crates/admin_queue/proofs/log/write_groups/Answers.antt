use Rattle.std.proofs.Common.{◌∙◌, length}
use Rattle.nvt_fields.proofs.Windows.{window_of_nothing}
use Rattle.admin_queue.proofs.log.write_groups.Goals as goal

pub returns-in-None : goal.returns-in-None
returns-in-None c = rw c.in-None.is (c.write_zeros.ensures ∙ window_of_nothing c.args.offset (length c.args.out.now))
