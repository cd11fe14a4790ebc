use Rattle.host_driver.proofs.Looping.{begins_looping, fails, goes_on, idles, idles_later, starves, steps}
use Rattle.host_driver.proofs.queue.HostQueue.run.Goals as goal

pub loop-is_first-init : goal.loop-is_first-init
loop-is_first-init c = begins_looping _

pub loop-is_first-preserved : goal.loop-is_first-preserved
loop-is_first-preserved c =
    goes_on _ _ _ _ c.loop-is_first.invariant (rw (c.in-Told-Ok-None.field-0-is, c.in-Told-Ok-None.field-0-0-is) at c.in-Told-Ok-None.ensures)

pub returns-in-Nothing : goal.returns-in-Nothing
returns-in-Nothing c = idles _ _ _ _ c.loop-is_first.invariant c.in-Nothing.ensures

pub returns-in-Starved : goal.returns-in-Starved
returns-in-Starved c = starves _ _ _ _ c.loop-is_first.invariant c.if-is_first.true c.in-Starved.ensures

pub returns-in-Starved-2 : goal.returns-in-Starved-2
returns-in-Starved-2 c = idles_later _ _ _ _ c.loop-is_first.invariant c.if-is_first.false c.in-Starved-2.ensures

pub returns-in-Told-Ok-Some : goal.returns-in-Told-Ok-Some
returns-in-Told-Ok-Some c =
    steps _ _ _ _ _ c.loop-is_first.invariant (rw (c.in-Told-Ok-Some.field-0-is, c.in-Told-Ok-Some.field-0-0-is) at c.in-Told-Ok-Some.ensures)

pub returns-in-Told-Err : goal.returns-in-Told-Err
returns-in-Told-Err c = fails _ _ _ _ _ c.loop-is_first.invariant (rw c.in-Told-Err.field-0-is at c.in-Told-Err.ensures)
