use Rattle.nvt_serve.proofs.Sets.{adds}
use Rattle.nvt_serve.proofs.connection_set.ConnectionSet.add.Goals as goal

pub returns : goal.returns
returns c = adds c.args.self.now.bits c.args.k c.requires
