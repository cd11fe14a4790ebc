use Rattle.std.proofs.Common.{length}
use Rattle.host_driver.specs.Queue.{Looping}
use Rattle.host_driver.proofs.queue.HostQueue.run.Given as goal

-- what was taken so far told nothing
abbrev pub invariant-loop-is_first : goal.invariant-loop-is_first
invariant-loop-is_first l = Looping l.fn.self l.self l.is_first

abbrev pub decreases-loop-is_first : goal.decreases-loop-is_first
decreases-loop-is_first l = length l.self.held
