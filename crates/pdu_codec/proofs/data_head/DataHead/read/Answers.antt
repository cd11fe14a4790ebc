use Rattle.std.proofs.Common.{refl}
use Rattle.pdu_codec.proofs.data_head.DataHead.read.Goals as goal

pub returns : goal.returns
returns c = rw (c.u16_at.ensures, c.u16_at-2.ensures, c.u32_at.ensures, c.u32_at-2.ensures) refl
