use Rattle.std.proofs.Common.{◌∙◌, ◌++◌, ap, sym, arith, false}
use Rattle.host_driver.specs.Requested.{piece, piece_pdu, requested_of}
use Rattle.host_driver.proofs.Sending.{ends_sending, goes_on, nothing_sent}
use Rattle.host_driver.proofs.requested.write_requested.Goals as goal

pub returns-then-is_empty-clause-items : goal.returns-then-is_empty-clause-items
returns-then-is_empty-clause-items c =
    nothing_sent c.args.limits c.args.request c.args.bytes.now c.args.out.now.items (sym c.if-is_empty.true ∙ c.is_empty.ensures)

pub loop-left-preserved : goal.loop-left-preserved
loop-left-preserved c =
    let appended = c.write_piece.ensures.items ∙ ap (λ bytes. c.loop-left.out.items ++ piece_pdu c.args.limits.cpda c.args.request (piece c.loop-left.offset false bytes)) c.split_at.ensures.front in
    rw c.split_at.ensures.back (goes_on _ _ _ _ _ _ _ _ _ _ _ _ _ c.loop-left.invariant c.requires.limits.1 c.loop-left-test.true appended (omega (arith, c.write_piece.ensures.spare, c.split_at.ensures.front_len)))

pub returns-clause-items : goal.returns-clause-items
unfolding requested_of
returns-clause-items c =
    ends_sending _ _ _ _ _ _ _ _ _ _ _ _ c.loop-left.invariant c.loop-left-test.false c.write_piece-2.ensures.items
