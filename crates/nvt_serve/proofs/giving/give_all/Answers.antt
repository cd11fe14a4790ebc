use Rattle.nvt_serve.specs.Served.{serving}
use Rattle.nvt_serve.proofs.Runs.{goes_on}
use Rattle.nvt_serve.proofs.giving.give_all.Goals as goal
use Rattle.nvt_serve.proofs.giving.give_all.Goals.{in-Some-slot_of, in_default-slot_of}

pub loop-k-preserved : goal.loop-k-preserved
loop-k-preserved g c =
    elim c.match-slot_of.branch [
      | in-Some-slot_of w ↦ rw (w.ports-is, w.target-is, w.ties-is) (record {
        ties = w.give.ensures.ties;
        goes = goes_on (serving (g.P.Ports.state c.args.ports.now) c.args.target.now c.args.ties.now)
            (serving (g.P.Ports.state c.loop-k.ports) c.loop-k.target c.loop-k.ties)
            (serving (g.P.Ports.state w.give.new.ports) w.give.new.target w.give.new.ties) c.loop-k.invariant.goes w.give.ensures.goes;
      })
      | in_default-slot_of w ↦ rw (w.ports-is, w.target-is, w.ties-is) c.loop-k.invariant
    ]
