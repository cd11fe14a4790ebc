use Rattle.std.proofs.Common.{rules}
use Rattle.pdu_codec.proofs.capsule_resp.CapsuleResp.entry.Goals as goal

pub returns : goal.returns
returns c = search rules
