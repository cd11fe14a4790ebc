use Rattle.std.proofs.Common.{refl}
use Rattle.pdu_cut.proofs.header.Layout.of.Goals as goal

pub returns-in-CapsuleCmd : goal.returns-in-CapsuleCmd
returns-in-CapsuleCmd c = rw c.in-CapsuleCmd.is refl

pub returns-in-H2cData : goal.returns-in-H2cData
returns-in-H2cData c = rw c.in-H2cData.is refl

pub returns-in-C2hData : goal.returns-in-C2hData
returns-in-C2hData c = rw c.in-C2hData.is refl
