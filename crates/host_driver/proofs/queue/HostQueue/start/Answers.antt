use Rattle.host_driver.proofs.Agreeing.{first_agrees}
use Rattle.host_driver.proofs.queue.HostQueue.start.Goals as goal

pub returns : goal.returns
returns c = first_agrees c.args.params _ c.in_ok-start.ensures c.in_ok-new.ensures
