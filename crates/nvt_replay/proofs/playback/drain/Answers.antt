use Rattle.std.proofs.Common.{◌≡◌, sym, refl, subst, arith}
use Rattle.std.specs.Prelude.{nat_lt}
use Rattle.std.proofs.lemmas.Result.{err_from_is_err_and}
use Rattle.std.specs.Io.KnownBytes.{Appends}
use Rattle.nvt_replay.specs.Played.{ArePrinted, Drains, lines_below}
use Rattle.nvt_replay.proofs.Cutting.{draining_cut, stepping_cut}
use Rattle.nvt_replay.proofs.Prints.{lines_more, lines_same, more_printed, none_more, none_printed, nothing_printed}
use Rattle.nvt_replay.proofs.playback.drain.Goals as goal
use Rattle.nvt_replay.proofs.playback.drain.Goals.{then-is_open+in_ok-print, else-is_open}

pub loop-k-init : goal.loop-k-init
loop-k-init g c = record {
  left = none_printed c.step.new.self;
  printed = nothing_printed c.step.new.self (g.W.Write.contents c.args.out.now);
}

pub loop-k-preserved : goal.loop-k-preserved
loop-k-preserved g c =
    let k = c.loop-k.k in
    let idle = c.step.new.self in
    let a = g.W.Write.contents c.args.out.now in
    let b = g.W.Write.contents c.loop-k.out in
    elim c.if-is_open.branch [
      | then-is_open+in_ok-print w ↦ rw (w.connections-is, w.out-is) (record {
        left = more_printed k idle c.loop-k.connections w.print.new.connections c.loop-k.invariant.left w.in_ok-print.ensures.left;
        printed = lines_more k idle c.loop-k.connections a b (g.W.Write.contents w.print.new.out) c.loop-k.invariant.left c.loop-k.invariant.printed
            w.in_ok-print.ensures.printed;
      })
      | else-is_open w ↦ rw (w.connections-is, w.out-is) (record {
        left = none_more k idle c.loop-k.connections (sym w.if-is_open.ensures) c.loop-k.invariant.left;
        printed = lines_same k idle c.loop-k.connections a b c.loop-k.invariant.left (sym w.if-is_open.ensures) c.loop-k.invariant.printed;
      })
    ]

pub returns-clause-drained : goal.returns-clause-drained
returns-clause-drained g c =
    let idle = c.step.new.self in
    let all : c.loop-k.k ≡ 64 = omega arith in
    let printed = subst (λ k. Appends (g.W.Write.contents c.args.out.now) (g.W.Write.contents c.loop-k.out) (lines_below k idle)) all c.loop-k.invariant.printed in
    let left = subst (λ k. ArePrinted (λ j. nat_lt j k) idle c.loop-k.connections) all c.loop-k.invariant.left in
    let drains : Drains c.args.connections.now (lines_below 64 idle) c.loop-k.connections =
    record { idle = idle; steps = c.in_ok-step.ensures; prints = refl; left = left } in
    (lines_below 64 idle, printed, drains)

pub returns-in_err-step-clause-begun : goal.returns-in_err-step-clause-begun
returns-in_err-step-clause-begun g c =
    let p = err_from_is_err_and c.from_residual.result c.from_residual.ensures.1 in
    rw p.1 (stepping_cut c.args.connections.now (g.W.Write.contents c.args.out.now))

pub returns-in_err-print-clause-begun : goal.returns-in_err-print-clause-begun
returns-in_err-print-clause-begun g c =
    let p = err_from_is_err_and c.from_residual-in_err-print.result c.from_residual-in_err-print.ensures.1 in
    rw p.1 (draining_cut c.loop-k.k c.args.connections.now c.step.new.self c.loop-k.connections (g.W.Write.contents c.args.out.now)
    (g.W.Write.contents c.loop-k.out) (g.W.Write.contents c.print.new.out) (omega arith) c.in_ok-step.ensures c.loop-k.invariant.left
    c.loop-k.invariant.printed c.in_err-print.ensures.begun)
