use Rattle.std.proofs.Common.{refl, sym}
use Rattle.std.proofs.lemmas.Result.{err_from_is_err_and}
use Rattle.nvt_replay.proofs.Cutting.{decoding_cut, handing_cut, receiving_none_cut}
use Rattle.nvt_replay.proofs.playback.Playback.receive.Goals as goal

pub returns-then-not-is_open-clause-begun : goal.returns-then-not-is_open-clause-begun
returns-then-not-is_open-clause-begun g c =
    receiving_none_cut c.event.result c.args.connection c.args.hex.now c.args.self.now.connections c.args.self.now.connections
    (g.W.Write.contents c.args.out.now) (g.W.Write.contents c.event.new.out) (sym c.if-not-is_open.ensures) refl c.event.ensures.begun

pub returns-in_err-decode-clause-begun : goal.returns-in_err-decode-clause-begun
returns-in_err-decode-clause-begun g c =
    let p = err_from_is_err_and c.from_residual.result c.from_residual.ensures.1 in
    rw p.1 (decoding_cut c.args.connection c.args.hex.now c.args.self.now.connections c.args.self.now.connections (g.W.Write.contents c.args.out.now)
    (sym c.if-not-is_open.ensures) refl)

pub returns-clause-begun : goal.returns-clause-begun
returns-clause-begun g c =
    handing_cut c.hand_out.result c.args.connection c.args.hex.now c.decode.new.bytes.items c.args.self.now.connections c.hand_out.new.connections
    (g.W.Write.contents c.args.out.now) (g.W.Write.contents c.hand_out.new.out) (sym c.if-not-is_open.ensures) c.in_ok-decode.ensures
    (rw c.deref.ensures.value at c.hand_out.ensures.begun)
