use Rattle.pdu_codec.proofs.initialize.IcResp.write.Goals as goal

pub returns : goal.returns
returns c = rw (c.common_header-header.ensures, c.fields.ensures) at c.append.ensures
