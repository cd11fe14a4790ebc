use Rattle.std.proofs.Common.{sym}
use Rattle.nvt_replay.proofs.Steps.{below_more, below_none}
use Rattle.target_core.proofs.Steps.{unknown_steps}
use Rattle.nvt_replay.proofs.connections.Connections.step.Goals as goal
use Rattle.nvt_replay.proofs.connections.Connections.step.Goals.{then-is_open+in_ok-step_one, else-is_open}

pub loop-k-init : goal.loop-k-init
loop-k-init c = below_none c.args.self.now

pub loop-k-preserved : goal.loop-k-preserved
loop-k-preserved c =
    elim c.if-is_open.branch [
      | then-is_open+in_ok-step_one w ↦
          rw w.self-is (below_more c.loop-k.k c.args.self.now c.loop-k.self w.step_one.new.self c.loop-k.invariant w.in_ok-step_one.ensures)
      | else-is_open w ↦
          rw w.self-is (below_more c.loop-k.k c.args.self.now c.loop-k.self c.loop-k.self c.loop-k.invariant
          (unknown_steps c.loop-k.k c.loop-k.self (sym w.if-is_open.ensures)))
    ]
