use Rattle.nvt_serve.specs.Served.{serving}
use Rattle.nvt_serve.proofs.Runs.{goes_on}
use Rattle.nvt_serve.proofs.closing.close_all.Goals as goal
use Rattle.nvt_serve.proofs.closing.close_all.Goals.{then-ended+then-is_empty, else-ended}

pub loop-k-preserved : goal.loop-k-preserved
loop-k-preserved g c =
    elim c.if-ended.branch [
      | then-ended+then-is_empty w ↦ rw (w.ports-is, w.target-is, w.ties-is) (record {
        ties = w.close.ensures.ties;
        goes = goes_on (serving (g.P.Ports.state c.args.ports.now) c.args.target.now c.args.ties.now)
            (serving (g.P.Ports.state c.loop-k.ports) c.loop-k.target c.loop-k.ties)
            (serving (g.P.Ports.state w.close.new.ports) w.close.new.target w.close.new.ties) c.loop-k.invariant.goes w.close.ensures.goes;
      })
      | else-ended w ↦ rw (w.ports-is, w.target-is, w.ties-is) c.loop-k.invariant
    ]
