use Rattle.nvt_ports.proofs.Connects.{noticed, shown}
use Rattle.nvt_ports.proofs.connect_watch.ConnectWatch.is_connected.Goals as goal

pub returns-clause-seen : goal.returns-clause-seen
returns-clause-seen c given seen = (shown seen, noticed seen)
