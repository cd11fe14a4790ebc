use Rattle.std.proofs.Common.{◌≡◌, take, ap, arith}
use Rattle.std.proofs.lemmas.List.{length-take}
use Rattle.connection_log.specs.Reading.{Reading, pdu_len}
use Rattle.connection_log.proofs.Readings.{in_order_on}
use Rattle.connection_log.proofs.pdu_front.PduFront.read_to.Goals as goal

pub invariant_of-self : goal.invariant_of-self
invariant_of-self c =
    let r : Reading = record { most = c.self.inside.most; came = c.self.inside.came; front = c.self.inside.front.items } in
    let bytes = c.args.bytes.now in
    let same : r ≡ c.args.self.now = c.self.view_is in (
      omega (arith, c.extend_from_slice.ensures.capacity, c.self.invariant.0),
      in_order_on r c.args.place c.min-n.result (take c.min.result bytes) c.extend_from_slice.new.self.items c.self.invariant.1
          (omega (arith, c.requires.end, ap (λ (p : Reading). pdu_len p.front) same))
          (λ h. omega (arith, c.requires.header h, ap (λ (p : Reading). p.came) same))
          (omega arith)
          (omega (arith, length-take c.min.result bytes))
          (rw c.unwrap.ensures at c.extend_from_slice.ensures.items),
    )
