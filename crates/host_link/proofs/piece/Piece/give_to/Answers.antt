use Rattle.std.proofs.Common.{◌-◌, ◌≡◌, length, drop, arith}
use Rattle.std.specs.Prelude.{slice_range}
use Rattle.std.proofs.lemmas.List.{length-drop, length-take}
use Rattle.host_link.proofs.Parts.{hands_on}
use Rattle.host_link.proofs.piece.Piece.give_to.Goals as goal

pub returns : goal.returns
returns c =
    let p = c.self.inside in
    let lent = c.deref.result.now in
    let len : length (slice_range lent p.start p.end) ≡ p.end - p.start =
    omega (arith, length-take (p.end - p.start) (drop p.start lent), length-drop p.start lent, c.deref.ensures.len, c.self.invariant) in
    hands_on p.buffer.items lent c.args.self.now p.start p.end c.receive.result c.args.queue.now c.receive.new.self c.self.view_is c.deref.ensures.value
    c.self.invariant.0 c.receive.ensures.taken c.receive.ensures.held (omega (arith, c.receive.ensures.taken)) len c.receive.ensures.agrees
