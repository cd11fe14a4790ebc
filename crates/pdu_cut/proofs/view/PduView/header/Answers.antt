use Rattle.std.proofs.Common.{sym}
use Rattle.std.proofs.lemmas.List.{length-take-le}
use Rattle.pdu_cut.proofs.Headers.{header_within}
use Rattle.pdu_cut.proofs.view.PduView.header.Goals as goal

pub slice_bounds-result-end : goal.slice_bounds-result-end
slice_bounds-result-end c =
    rw c.of.ensures (sym (length-take-le _ _ (header_within c.self.invariant.0 _ c.self.invariant.1)))

pub returns-clause-len : goal.returns-clause-len
returns-clause-len c =
    rw (c.of.ensures, ← c.self.view_is) (length-take-le _ _ (header_within c.self.invariant.0 _ c.self.invariant.1))
