use Rattle.std.proofs.Common.{refl}
use Rattle.pdu_cut.proofs.header.CommonHeader.read.Goals as goal

pub returns : goal.returns
returns c = rw c.u32_at.ensures refl
