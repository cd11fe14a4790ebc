use Rattle.std.proofs.Common.{◌≡◌, ◌-◌, ◌++◌, [], suc, length, take, drop, length-drop, arith}
use Rattle.std.proofs.lemmas.List.{take_all}
use Rattle.std.proofs.lemmas.Result.{err_from_is_err_and}
use Rattle.std.proofs.KnownBytes.{Appends-nil, Appends-trans}
use Rattle.nvt_replay.proofs.Cutting.{piece_before, piece_cut}
use Rattle.nvt_replay.proofs.Pieces.{none_taken, piece_more}
use Rattle.nvt_replay.proofs.playback.hand_out.Goals as goal

pub loop-rest-init : goal.loop-rest-init
loop-rest-init g c = record {
  whole = λ n last end text hands printed. (text, printed, (n, hands));
  part = λ n end text hands printed. (text, printed, (n, hands));
}

pub loop-rest-preserved : goal.loop-rest-preserved
loop-rest-preserved g c =
    let first = c.in_ok-drain.ensures.drained in
    let len = c.receive-len.result in
    let rest = c.loop-rest.rest.now in
    let after : take (length rest - len) (drop len rest) ≡ drop len rest = take_all _ (drop len rest) (omega (arith, length-drop len rest)) in
    record {
      whole = λ n last end text hands printed.
          c.loop-rest.invariant.whole (suc n) last end (first.0 ++ text)
          (piece_more c.args.k n len rest _ c.loop-rest.connections c.receive-len.new.self c.drain.new.connections last
          first.0 text c.receive-len.ensures.number (omega arith) c.receive-len.ensures.received first.2 after hands)
          (Appends-trans (g.W.Write.contents c.loop-rest.out) (g.W.Write.contents c.drain.new.out) end first.0 text first.1 printed);
      part = λ n end text hands printed.
          c.loop-rest.invariant.part (suc n) end (first.0 ++ text)
          (piece_before c.args.k n len rest _ c.loop-rest.connections c.receive-len.new.self c.drain.new.connections
          first.0 text c.receive-len.ensures.number (omega arith) c.receive-len.ensures.received first.2 after hands)
          (Appends-trans (g.W.Write.contents c.loop-rest.out) (g.W.Write.contents c.drain.new.out) end first.0 text first.1 printed);
    }

pub returns-then-len-eq0-clause-played : goal.returns-then-len-eq0-clause-played
returns-then-len-eq0-clause-played g c =
    c.loop-rest.invariant.whole 0 c.receive-len.new.self (g.W.Write.contents c.loop-rest.out) []
    (none_taken c.args.k c.receive-len.result c.loop-rest.rest.now c.loop-rest.connections c.receive-len.new.self c.receive-len.ensures.number
    c.if-len-eq0.true c.receive-len.ensures.received)
    (Appends-nil (g.W.Write.contents c.loop-rest.out))

pub returns-in_err-drain-clause-begun : goal.returns-in_err-drain-clause-begun
returns-in_err-drain-clause-begun g c =
    let part = c.in_err-drain.ensures.begun in
    let p = err_from_is_err_and c.from_residual.result c.from_residual.ensures.1 in
    rw p.1 (c.loop-rest.invariant.part 0 (g.W.Write.contents c.drain.new.out) part.0
    (piece_cut c.args.k c.receive-len.result c.loop-rest.rest.now part.0 c.loop-rest.connections c.receive-len.new.self
    c.receive-len.ensures.number (omega arith) c.receive-len.ensures.received part.2)
    part.1)
