use Rattle.std.proofs.Common.{length}
use Rattle.host_driver.specs.Requested.{asked_of}
use Rattle.host_driver.proofs.Sending.{Sending}
use Rattle.host_driver.proofs.requested.write_requested.Given as goal

-- what is still to be appended
abbrev pub invariant-loop-left : goal.invariant-loop-left
invariant-loop-left l =
    Sending l.limits.cpda l.limits.maxh2cdata l.request l.request.r2to (asked_of l.request l.bytes) l.fn.out.items l.out.items l.fn.out.spare l.out.spare l.offset l.left

abbrev pub decreases-loop-left : goal.decreases-loop-left
decreases-loop-left l = length l.left
