use Rattle.pdu_codec.proofs.capsule_resp.CapsuleResp.write.Goals as goal

pub returns : goal.returns
returns c = rw (c.common_header-header.ensures, c.entry.ensures) at c.append.ensures
