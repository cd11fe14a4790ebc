use Rattle.std.proofs.Common.{◌≡◌, ap, ◌∙◌, arith}
use Rattle.connection_log.specs.Reading.{Reading, pdu_len}
use Rattle.connection_log.proofs.Readings.{first_in_order}
use Rattle.connection_log.proofs.pdu_front.PduFront.read_first.Goals as goal

pub returns-clause-number : goal.returns-clause-number
unfolding pdu_len
returns-clause-number c = omega (arith, c.u32_at.ensures)

pub invariant_of-self : goal.invariant_of-self
unfolding pdu_len
invariant_of-self c =
    let r : Reading = record { most = c.self.inside.most; came = c.self.inside.came; front = c.self.inside.front.items } in
    let same : r ≡ c.args.self.now = c.self.view_is in
    let none : c.self.inside.came ≡ 0 = ap (λ (p : Reading). p.came) same ∙ c.requires.first in (
      omega (arith, c.extend_from_slice.ensures.capacity, c.self.invariant.0),
      first_in_order r c.args.bytes.now c.min-n.result c.min.result c.extend_from_slice.new.self.items c.self.invariant.1 none c.requires.header (omega (arith, c.u32_at.ensures)) c.min.ensures
          (rw c.unwrap.ensures at c.extend_from_slice.ensures.items),
    )
