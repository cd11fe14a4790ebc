use Rattle.std.proofs.Common.{sym, ap, ◌∙◌}
use Rattle.pdu_cut.specs.Front.{whole}
use Rattle.pdu_cut.proofs.Fronts.{pdu_at, front_at, front_faulty, front_short, front_pdu}
use Rattle.pdu_cut.proofs.buffer.RxBuf.peek.Goals as goal

pub new-requires : goal.new-requires
new-requires c =
    rw c.read-header.ensures (
      c.self.inside.side,
      pdu_at _ _ _ (rw c.read-header.ensures at (sym c.in-Ok.ensures)) (rw c.read-header.ensures at c.if-bytes-len.false),
    )

pub returns-in-Err-clause-front : goal.returns-in-Err-clause-front
returns-in-Err-clause-front c =
    rw (← c.held-bytes.ensures, ← c.self.view_is)
    (sym (front_faulty _ _ _ c.if-bytes-lt-COMMON_HEADER_LEN.false (rw c.read-header.ensures at (sym c.in-Err.ensures))))

pub returns-then-bytes-len-clause-front : goal.returns-then-bytes-len-clause-front
returns-then-bytes-len-clause-front c =
    rw (← c.held-bytes.ensures, ← c.self.view_is)
    (sym (front_short _ _ _ c.if-bytes-lt-COMMON_HEADER_LEN.false
    (rw c.read-header.ensures at (sym c.in-Ok.ensures)) (rw c.read-header.ensures at c.if-bytes-len.true)))

pub returns-else-bytes-len-clause-front : goal.returns-else-bytes-len-clause-front
returns-else-bytes-len-clause-front c =
    rw (← c.held-bytes.ensures, ← c.self.view_is)
    (ap whole (rw c.read-header.ensures at c.new.ensures)
    ∙ sym (front_pdu _ _ _ c.if-bytes-lt-COMMON_HEADER_LEN.false
    (rw c.read-header.ensures at (sym c.in-Ok.ensures)) (rw c.read-header.ensures at c.if-bytes-len.false)))

pub returns-else-bytes-len-clause-whole : goal.returns-else-bytes-len-clause-whole
returns-else-bytes-len-clause-whole c =
    rw (← c.held-bytes.ensures, ← c.self.view_is, c.new.ensures, c.read-header.ensures)
    (front_at _ _ _ (rw c.read-header.ensures at (sym c.in-Ok.ensures)) (rw c.read-header.ensures at c.if-bytes-len.false))
