use Rattle.nvt_ports.proofs.Connects.{at_the_start}
use Rattle.nvt_ports.proofs.connect_watch.ConnectWatch.new.Goals as goal

pub returns : goal.returns
returns c = at_the_start
