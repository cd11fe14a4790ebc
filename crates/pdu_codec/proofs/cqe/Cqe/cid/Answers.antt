use Rattle.pdu_codec.proofs.cqe.Cqe.cid.Goals as goal

pub returns : goal.returns
returns c = c.u16_at.ensures
