use Rattle.std.proofs.Common.{◌≡◌, sym, arith}
use Rattle.nvt_serve.proofs.Looking.{known_all, known_more, out_more, unknown_more}
use Rattle.nvt_serve.proofs.ties.known_of.Goals as goal
use Rattle.nvt_serve.proofs.ties.known_of.Goals.{then-is_known, else-is_known}

pub loop-k-preserved : goal.loop-k-preserved
loop-k-preserved g c =
    elim c.if-is_known.branch [
      | then-is_known w ↦ rw w.known-is (record {
        known = known_more c.args.target.now c.loop-k.k c.loop-k.known.bits w.add.new.self.bits w.add.ensures (sym w.if-is_known.ensures.known)
            c.loop-k.invariant.known;
        rest = out_more c.loop-k.k c.loop-k.known.bits w.add.new.self.bits w.add.ensures c.loop-k.invariant.rest;
        most = λ some. c.is_known.ensures.most;
      })
      | else-is_known w ↦ rw w.known-is (record {
        known = unknown_more c.args.target.now c.loop-k.k c.loop-k.known.bits (sym w.if-is_known.ensures.known) c.loop-k.invariant.known
            c.loop-k.invariant.rest;
        rest = λ j past. c.loop-k.invariant.rest j (omega (arith, past));
        most = λ some. c.is_known.ensures.most;
      })
    ]

pub returns : goal.returns
returns g c =
    let all : c.loop-k.k ≡ 64 = omega arith in
    known_all c.args.target.now c.loop-k.known.bits c.loop-k.k all (c.loop-k.invariant.most (omega arith)) c.loop-k.invariant.known c.loop-k.invariant.rest
