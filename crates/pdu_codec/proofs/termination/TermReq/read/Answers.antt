use Rattle.pdu_codec.proofs.termination.TermReq.read.Goals as goal

pub returns-clause-fei : goal.returns-clause-fei
returns-clause-fei c = c.u32_at.ensures
