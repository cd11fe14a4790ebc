use Rattle.std.proofs.Common.{refl}
use Rattle.host_link.specs.Waiting.{never}
use Rattle.host_link.proofs.Waited.{fewer, waits_on}
use Rattle.host_link.proofs.session.LinkSession.wait.Goals as goal

pub returns-in-Some-clause-fewer : goal.returns-in-Some-clause-fewer
returns-in-Some-clause-fewer g c = fewer never c.args.self.now c.loop-self.self c.turn.new.self c.loop-self.invariant c.turn.ensures.fewer

pub loop-self-preserved : goal.loop-self-preserved
loop-self-preserved g c =
    waits_on never c.args.self.now c.loop-self.self c.turn.new.self c.loop-self.invariant (rw c.in_default.is at c.in_ok-step.ensures.does) refl
