use Rattle.std.proofs.Common.{arith}
use Rattle.nvt_ports.specs.Connects.{plen_of}
use Rattle.nvt_ports.proofs.connect_watch.plen_of.Goals as goal

pub returns : goal.returns
unfolding plen_of
returns c = omega arith
