use Rattle.std.proofs.Common.{ℕ, List, max, ap, ◌∙◌}
use Rattle.nvt_fields.specs.Field.{field_at}
use Rattle.connection_log.specs.Reading.{Reading, pdu_len}
use Rattle.connection_log.proofs.pdu_front.PduFront.pdu_len.Goals as goal

pub returns : goal.returns
unfolding pdu_len
returns c =
    c.max.ensures ∙ ap (λ (n : ℕ). max n 8)
    (c.u32_at.ensures ∙ ap (λ (bytes : List ℕ). field_at 4 4 bytes)
    (c.deref.ensures.value ∙ ap (λ (r : Reading). r.front) c.self.view_is))
