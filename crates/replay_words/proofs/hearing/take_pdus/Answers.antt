use Rattle.std.proofs.Common.{◌≡◌, ◌∙◌, ap, sym}
use Rattle.pdu_cut.specs.declared.side.Side.TheVariants.{Target}
use Rattle.pdu_cut.specs.Front.{whole, front}
use Rattle.replay_words.proofs.Hearings.{so_far_taken}
use Rattle.replay_words.proofs.hearing.take_pdus.Goals as goal

pub loop-pdu-preserved : goal.loop-pdu-preserved
loop-pdu-preserved c =
    let held = c.loop-pdu.buffer.held in
    let pdu = c.in-Pdu.pdu in
    let shown : front Target held ≡ whole pdu = ap (λ s. front s held) (sym c.loop-pdu.invariant.side) ∙ sym c.in-Pdu.ensures.front in
    let taken = so_far_taken c.args.number c.args.buffer.now.held held c.args.commands.now c.loop-pdu.commands c.args.text.now.items c.loop-pdu.text.items pdu c.loop-pdu.invariant.so_far shown in
    record {
      side = rw c.consume.ensures c.loop-pdu.invariant.side;
      so_far = rw (c.consume.ensures, c.plen-len.ensures.len, c.in_ok-tell-in-Pdu.ensures, c.learn.ensures) taken;
    }
