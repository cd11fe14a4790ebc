use Rattle.std.proofs.Common.{refl}
use Rattle.pdu_words.proofs.explanation.read_completion.Goals as goal

pub returns : goal.returns
returns c = rw (c.cid.ensures, c.sqhd.ensures, c.status.ensures, c.result.ensures, c.read-cqe.ensures, c.response_header.ensures) refl
