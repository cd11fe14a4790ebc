use Rattle.std.proofs.Common.{refl}
use Rattle.pdu_codec.proofs.initialize.IcResp.read.Goals as goal

pub returns : goal.returns
returns c = rw (c.u16_at.ensures, c.u32_at.ensures) refl
