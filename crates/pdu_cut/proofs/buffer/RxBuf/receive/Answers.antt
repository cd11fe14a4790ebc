use Rattle.std.proofs.Common.{◌≡◌, ◌+◌, ◌-◌, ℕ, List, slice_range, ap, ◌∙◌, rules}
use Rattle.std.specs.Vec.{with_items}
use Rattle.std.proofs.lemmas.List.{with_items_is}
use Rattle.pdu_cut.proofs.Ranges.{received, receives}
use Rattle.pdu_cut.proofs.buffer.RxBuf.receive.Goals as goal

pub returns-clause-appended : goal.returns-clause-appended
returns-clause-appended c =
    let b = c.self.inside in
    let at = c.make_way-start.result in
    let moved = c.make_way-start.new.bytes in
    let after = c.append.new.bytes in
    let taken = c.min-taken.result in
    let written : (with_items (with_items b.bytes moved) after).items ≡ after = search (rules, with_items_is) in
    ap (λ (l : List ℕ). received b.side (slice_range l at (at + (b.end - b.start) + taken))) written
    ∙ receives b.side b.bytes.items moved after c.args.piece.now b.start b.end at taken c.args.self.now c.self.view_is
    (search (rules, with_items_is)) (search (rules, with_items_is)) (search rules) (search (rules, with_items_is))
