use Rattle.nvt_serve.proofs.Sets.{removes}
use Rattle.nvt_serve.proofs.connection_set.without.Goals as goal

pub returns : goal.returns
returns c = removes c.args.bits c.args.k c.ranges.bits.fits c.requires
