use Rattle.std.proofs.lemmas.List.{take-replicate}
use Rattle.pdu_codec.proofs.append.zero_bytes.Goals as goal

pub returns : goal.returns
returns c = take-replicate c.args.count 112 0 c.requires
