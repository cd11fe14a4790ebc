use Rattle.std.proofs.Common.{refl, sym}
use Rattle.pdu_cut.proofs.view.PduView.plen.Goals as goal

pub returns-clause-field : goal.returns-clause-field
returns-clause-field c = rw (c.read.ensures, ← c.self.view_is) refl

pub returns-clause-len : goal.returns-clause-len
returns-clause-len c = rw (c.read.ensures, ← c.self.view_is) (sym c.self.invariant.1.len)
