use Rattle.pdu_cut.proofs.Headers.{data_within}
use Rattle.pdu_cut.proofs.view.PduView.data.Goals as goal

pub slice_bounds-result-count : goal.slice_bounds-result-count
slice_bounds-result-count c =
    rw (c.data_start.ensures, c.read-header.ensures) (data_within c.self.invariant.0 _ c.self.invariant.1)

pub slice_bounds-result-start : goal.slice_bounds-result-start
slice_bounds-result-start c =
    rw (c.data_start.ensures, c.read-header.ensures) (data_within c.self.invariant.0 _ c.self.invariant.1)
