use Rattle.nvt_serve.proofs.Sets.{joins}
use Rattle.nvt_serve.proofs.connection_set.ConnectionSet.join.Goals as goal

pub returns : goal.returns
returns c = joins c.args.self.now.bits c.args.other.bits
