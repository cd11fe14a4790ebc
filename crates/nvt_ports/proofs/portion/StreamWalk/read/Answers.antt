use Rattle.std.proofs.Common.{◌≤◌, ◌-◌, ◌+◌, ◌∙◌, length, ap, arith}
use Rattle.nvt_ports.proofs.Walks.{begun_in-drop, walked-drop}
use Rattle.nvt_ports.proofs.portion.StreamWalk.read.Goals as goal

pub loop-at-preserved : goal.loop-at-preserved
loop-at-preserved c =
    let n = c.min-n.result in
    let few : n ≤ c.loop-at.self.left = omega (arith, c.min-n.ensures) in
    let there : n ≤ length c.args.bytes.now - c.loop-at.at = omega (arith, c.min-n.ensures) in
    record {
      within = omega (arith, there, c.loop-at-test.true);
      few = omega (arith, c.loop-at.invariant.few);
      begun = ap (λ m. c.loop-at.begun + m)
          (begun_in-drop c.loop-at.at n c.loop-at.self.place c.loop-at.self.left c.loop-at.self.len c.args.bytes.now few there)
          ∙ c.loop-at.invariant.begun;
      walked = walked-drop c.loop-at.at n c.loop-at.self.place c.loop-at.self.left c.loop-at.self.len c.args.bytes.now few there
          ∙ c.loop-at.invariant.walked;
    }
