use Rattle.pdu_codec.proofs.r2t.R2t.write.Goals as goal

pub returns : goal.returns
returns c = rw (c.common_header-header.ensures, c.fields.ensures) at c.append.ensures
