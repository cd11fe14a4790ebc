use Rattle.pdu_codec.proofs.data_pdu.C2hData.write.Goals as goal

pub returns : goal.returns
returns c =
    rw (c.common_header-zeros.ensures.header, c.common_header-zeros.ensures.zeros, c.fields.ensures, c.head-head.ensures) at c.append.ensures
